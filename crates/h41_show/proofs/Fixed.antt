-- Sizes as FIX shows them.
use Rattle.std.specs.Prelude.{◌≡◌, ℕ, zero, suc, ◌+◌, ◌-◌, ◌*◌, ◌/◌, ◌^◌, ◌<◌, ◌≤◌, min, length, true, false, refl}
use Rattle.std.specs.Fmt.{decimal}
use Rattle.std.proofs.Common.{ap, sym, ◌∙◌, arith, inl, inr, subst, lt_of_lt_of_le, rules}
use Rattle.std.proofs.Math.Nat.{pow-suc, pow-le-pow_right, mul-pos}
use Rattle.std.proofs.lemmas.Nat.{le-div, div_below}
use Rattle.std.proofs.lemmas.Bool.{cases_lt}
use Rattle.std.proofs.lemmas.Bool.Decides.{nat_tests}
use Rattle.h41_decimal.specs.Units.{one}
use Rattle.h41_show.specs.Rounding.{nearest}
use Rattle.h41_show.specs.NumberText.{integer_digits, fixed_decimals, fixed_count, is_fixed}
use Rattle.h41_show.proofs.DecimalTexts.{length-decimal_step, length-decimal_digit}
use Rattle.h41_show.proofs.Powers.{power_pos, power_split, scaled_low, scaled_high, scaled_quotient}
use Rattle.h41_show.proofs.Roundings.{nearest_scaled}

-- A number between two neighbouring powers of ten has one digit more than the lower exponent.
length-decimal_is : (k n : ℕ) → 10 ^ k ≤ n → n < 10 ^ (k + 1) → n < 2 ^ 64 → length (decimal n) ≡ k + 1
length-decimal_is zero n low high fits = length-decimal_digit n high
length-decimal_is (suc k) n low high fits =
    let p = pow-suc 10 k in
    let next : suc k + 1 ≡ suc (k + 1) = omega arith in
    let q : 10 ^ (suc k + 1) ≡ 10 ^ (k + 1) * 10 = ap (λ t. 10 ^ t) next ∙ pow-suc 10 (k + 1) in
    let some = power_pos k in
    let ten : 10 ≤ n = omega arith in
    let below : 10 ^ k ≤ n / 10 = le-div (10 ^ k) n 10 (omega arith) (omega arith) in
    let above : n / 10 < 10 ^ (k + 1) = div_below n 10 (10 ^ (k + 1)) (omega arith) (omega arith) in
    length-decimal_step n ten fits ∙ (let rest = length-decimal_is k (n / 10) below above (omega arith) in omega arith)

-- The digits before the radix mark, of ten digits at a power of ten.
module _ (d s : ℕ) (low : 10 ^ 9 ≤ d) (high : d < 10 ^ 10) where
  whole : 99 ≤ s → s ≤ 108 → integer_digits (d * 10 ^ s) ≡ s - 99 + 1
  whole least most =
      let q = d / 10 ^ (108 - s) in
      let unit : 108 ≡ 108 - s + s = omega arith in
      let quotient : d * 10 ^ s / one ≡ q = ap (λ k. d * 10 ^ s / 10 ^ k) unit ∙ scaled_quotient d s (108 - s) in
      let nine = power_split 9 (s - 99) (108 - s) (omega arith) in
      let ten = power_split 10 (s - 99 + 1) (108 - s) (omega arith) in
      let below : 10 ^ (s - 99) ≤ q = le-div (10 ^ (s - 99)) d (10 ^ (108 - s)) (power_pos (108 - s)) (subst (λ t. t ≤ d) nine low) in
      let above : q < 10 ^ (s - 99 + 1) =
      div_below d (10 ^ (108 - s)) (10 ^ (s - 99 + 1)) (power_pos (108 - s)) (subst (λ t. d < t) ten high) in
      let few : s - 99 + 1 ≤ 10 = omega arith in
      let bound : 10 ^ (s - 99 + 1) ≤ 10 ^ 10 = pow-le-pow_right (omega arith) few in
      ap (λ t. length (decimal t)) quotient ∙ length-decimal_is (s - 99) q below above (omega arith)

  none : s < 99 → integer_digits (d * 10 ^ s) ≡ s - 99 + 1
  none less =
      let below : d * 10 ^ s < 10 ^ (10 + s) = scaled_high d s 10 high in
      let few : 10 + s ≤ 108 = omega arith in
      let bound : 10 ^ (10 + s) ≤ 10 ^ 108 = pow-le-pow_right (omega arith) few in
      let small : d * 10 ^ s < 1 * one = omega arith in
      let quotient : d * 10 ^ s / one < 1 = div_below (d * 10 ^ s) one 1 (omega arith) small in
      length-decimal_digit (d * 10 ^ s / one) (omega arith) ∙ (omega arith)

  pub integer_digits-size : s ≤ 108 → integer_digits (d * 10 ^ s) ≡ s - 99 + 1
  integer_digits-size most = elim (cases_lt s 99) [ inl less ↦ none less | inr not ↦ whole not most ]

  pub fixed_decimals-size : (digits : ℕ) → s ≤ 108 → min digits (9 - (s - 99)) ≡ fixed_decimals digits (d * 10 ^ s)
  fixed_decimals-size digits most = search (rules, integer_digits-size)

  fixed_count-size : (digits decimals dropped : ℕ) → s ≤ 108 → decimals ≡ min digits (9 - (s - 99)) → dropped ≡ 108 - s - decimals
      → nearest d (10 ^ dropped) ≡ fixed_count digits (d * 10 ^ s)
  fixed_count-size digits decimals dropped most are drop =
      let same = are ∙ fixed_decimals-size digits most in
      let sum : 108 - decimals ≡ dropped + s = omega arith in
      sym (ap (λ k. nearest (d * 10 ^ s) (10 ^ (108 - k))) (sym same)
      ∙ ap (nearest (d * 10 ^ s)) (power_split (108 - decimals) dropped s sum)
      ∙ nearest_scaled d (10 ^ dropped) (10 ^ s) (power_pos s))

  -- The count of steps, as the code computes it.
  pub fixed_count-code : (digits steps whole decimals : ℕ) → s ≤ 108 → steps ≡ s → whole ≡ steps - 99 → decimals ≡ min digits (9 - whole)
      → nearest d (10 ^ (108 - steps - decimals)) ≡ fixed_count digits (d * 10 ^ s)
  fixed_count-code digits steps whole decimals most same front are = search (rules, whole, fixed_count-size)

  pub size_positive : 0 < d * 10 ^ s
  size_positive = let some : 0 < d = omega arith in mul-pos some (power_pos s)

  pub size_below : s ≤ 108 → d * 10 ^ s < 10 ^ 10 * one
  size_below most =
      let below : d * 10 ^ s < 10 ^ (10 + s) = scaled_high d s 10 high in
      let few : 10 + s ≤ 118 = omega arith in
      let bound : 10 ^ (10 + s) ≤ 10 ^ 118 = pow-le-pow_right (omega arith) few in
      let unit : 10 ^ 118 ≡ 10 ^ 10 * one = refl in
      lt_of_lt_of_le below (subst (λ t. 10 ^ (10 + s) ≤ t) unit bound)

  pub size_above : 109 ≤ s → 10 ^ 10 * one ≤ d * 10 ^ s
  size_above least =
      let above : 10 ^ (9 + s) ≤ d * 10 ^ s = scaled_low d s 9 low in
      let many : 118 ≤ 9 + s = omega arith in
      let bound : 10 ^ 118 ≤ 10 ^ (9 + s) = pow-le-pow_right (omega arith) many in
      let unit : 10 ^ 118 ≡ 10 ^ 10 * one = refl in
      subst (λ t. t ≤ d * 10 ^ s) unit (omega arith)

-- The sizes that FIX shows in its own form, and those that it does not.
pub is_fixed-shown : (digits size : ℕ) → size < 10 ^ 10 * one → 0 < fixed_count digits size → is_fixed digits size ≡ true
unfolding is_fixed
is_fixed-shown digits size small some = search (rules, nat_tests)

pub is_fixed-large : (digits size : ℕ) → 10 ^ 10 * one ≤ size → is_fixed digits size ≡ false
unfolding is_fixed
is_fixed-large digits size large = search (rules, nat_tests)

pub is_fixed-tiny : (digits size : ℕ) → 0 < size → size < 10 ^ 10 * one → fixed_count digits size ≡ 0 → is_fixed digits size ≡ false
unfolding is_fixed
is_fixed-tiny digits size some small none = search (rules, nat_tests)

-- If more than ten digits are dropped, none is left.
pub nearest_none : (d dropped : ℕ) → d < 10 ^ 10 → 10 < dropped → nearest d (10 ^ dropped) ≡ 0
nearest_none d dropped high many =
    let bound : 10 ^ 11 ≤ 10 ^ dropped = pow-le-pow_right (omega arith) many in
    let below : nearest d (10 ^ dropped) < 1 = div_below (2 * d + 10 ^ dropped) (2 * 10 ^ dropped) 1 (omega arith) (omega arith) in
    omega arith
