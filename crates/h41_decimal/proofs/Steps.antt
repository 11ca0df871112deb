-- A size rounded to whole steps.
use Rattle.std.proofs.Common.{◌≡◌, ℕ, zero, suc, ◌+◌, ◌-◌, ◌*◌, ◌/◌, ◌^◌, ◌<◌, ◌≤◌, sym, ◌∙◌, ap, refl, subst, arith, Result, Ok}
use Rattle.std.specs.Prelude.{pos, unsigned_abs}
use Rattle.std.proofs.Math.Nat.{mul-pos, mul-le-mul_right, mul-lt-mul_of_pos_right, div-mul-le_self, lt-div-mul-add, pow-le-pow_right}
use Rattle.std.proofs.Math.Nat.{pow-suc}
use Rattle.std.proofs.lemmas.Nat.{pow-add}
use Rattle.h41_decimal.specs.Signs.{with_sign, sign_of}
use Rattle.h41_decimal.specs.Units.{size}
use Rattle.h41_decimal.specs.NearestDecimal.{Fraction, Nearest}
use Rattle.h41_decimal.specs.Operations.{RoundsTo}
use Rattle.h41_decimal.specs.private.Cut.{RoundsWhole}
use Rattle.h41_decimal.specs.declared.fault.DecimalFault.{DecimalFault}
use Rattle.h41_decimal.specs.declared.parts.Magnitude.{Magnitude}
use Rattle.h41_decimal.specs.declared.sign.Sign.{Sign}
use Rattle.h41_decimal.specs.declared.sign.Sign.TheVariants.{Plus, Minus}
use Rattle.h41_decimal.specs.declared.ten.Ten.{Ten}
use Rattle.h41_decimal.specs.declared.ten.Ten.TheVariants.{Zero, Nonzero}
use Rattle.h41_decimal.proofs.Nearest.{ten_pow_pos}
use Rattle.h41_decimal.proofs.Cuts.{power_parts}
use Rattle.h41_decimal.proofs.Exact.{exact_fraction}
use Rattle.h41_decimal.proofs.Signed.{nearest_of, nearest_of_zero, signed-zero}
use Rattle.h41_decimal.proofs.Tens.{size_pos, unsigned_abs-signed, own_nearest}

pub sign_of-signed : (sign : Sign) (n : ℕ) → 0 < n → sign_of (with_sign sign n) ≡ sign
sign_of-signed Plus n h = refl
sign_of-signed Minus zero h = absurd (omega arith)
sign_of-signed Minus (suc n) h = refl

-- A size with its sign rounds as the size does.
pub rounds_of : (sign : Sign) (n steps step : ℕ) (answer : Result Ten DecimalFault) → 0 < n
    → 2 * (steps * step) ≤ 2 * n + step → 2 * n + step < 2 * ((steps + 1) * step) → Nearest (with_sign sign (steps * step)) 1 answer
    → RoundsTo step (with_sign sign n) answer
rounds_of sign n steps step answer n_pos low high nearest =
    let a : unsigned_abs (with_sign sign n) ≡ n = unsigned_abs-signed sign n in
    let P : Sign → Type 0 = λ t. Nearest (with_sign t (steps * step)) 1 answer in
    record {
      steps = steps;
      not_above = omega arith;
      next_above = omega arith;
      value = subst P (sym (sign_of-signed sign n n_pos)) nearest;
    }

-- Zero remains zero.
pub zero_rounds : (step : ℕ) → 0 < step → RoundsTo step (pos 0) (Ok Zero)
zero_rounds step step_pos = record {
  steps = 0;
  not_above = omega arith;
  next_above = omega arith;
  value = nearest_of_zero (with_sign Plus (0 * step)) 1 (Ok Zero) (signed-zero Plus (0 * step) (omega arith)) refl;
}

-- A size with no place below the step does not change.
pub whole_rounds : (sign : Sign) (x : Magnitude) (place : ℕ) → place ≤ x.exponent.biased
    → RoundsTo (10 ^ place) (with_sign sign (size x)) (Ok (Nonzero sign x))
whole_rounds sign x place low =
    let m = x.mantissa.digits in
    let s = x.exponent.biased in
    let p : 10 ^ (s - place) * 10 ^ place ≡ 10 ^ s = power_parts (s - place) place s (omega arith) in
    let e : (m * 10 ^ (s - place)) * 10 ^ place ≡ m * 10 ^ s = (let f = ap (λ t. m * t) p in omega (arith, f)) in
    let some = ten_pow_pos place in
    let P : ℕ → Type 0 = λ t. Nearest (with_sign sign t) 1 (Ok (Nonzero sign x)) in
    rounds_of sign (m * 10 ^ s) (m * 10 ^ (s - place)) (10 ^ place) (Ok (Nonzero sign x)) (size_pos x) (omega arith) (omega arith)
    (subst P (sym e) (own_nearest (Nonzero sign x)))

-- A size far below half a step becomes zero.
pub tiny_rounds : (sign : Sign) (x : Magnitude) (place : ℕ) → x.exponent.biased + 10 < place
    → RoundsTo (10 ^ place) (with_sign sign (size x)) (Ok Zero)
tiny_rounds sign x place far =
    let m = x.mantissa.digits in
    let s = x.exponent.biased in
    let m_below : m < 10 ^ 10 = x.mantissa.below in
    let ten : 0 < 10 = omega arith in
    let apart : s + 11 ≤ place = omega arith in
    let p : 10 ^ (s + 11) ≤ 10 ^ place = pow-le-pow_right ten apart in
    let q : 10 ^ (s + 11) ≡ 10 ^ s * 10 ^ 11 = pow-add 10 s 11 in
    let a : m * 10 ^ s < 10 ^ 10 * 10 ^ s = mul-lt-mul_of_pos_right m_below (ten_pow_pos s) in
    rounds_of sign (m * 10 ^ s) 0 (10 ^ place) (Ok Zero) (size_pos x) (omega arith) (omega arith)
    (nearest_of_zero (with_sign sign (0 * 10 ^ place)) 1 (Ok Zero) (signed-zero sign (0 * 10 ^ place) (omega arith)) refl)

-- The rounded quotient of the digits m by the step p, at the place of x.
steps_low : (m p ps k : ℕ) → k * p ≤ m + p / 2 → 2 * (k * (p * ps)) ≤ 2 * (m * ps) + p * ps
steps_low m p ps k low =
    let a : (2 * (k * p)) * ps ≤ (2 * m + p) * ps = mul-le-mul_right ps (omega arith) in
    omega arith

steps_high : (m p ps k : ℕ) → 0 < ps → 2 * (p / 2) ≡ p → m + p / 2 < k * p + p → 2 * (m * ps) + p * ps < 2 * ((k + 1) * (p * ps))
steps_high m p ps k ps_pos even high =
    let a : (2 * m + p) * ps < (2 * (k * p + p)) * ps = mul-lt-mul_of_pos_right (omega arith) ps_pos in
    omega arith

half_of_power : (p dropped : ℕ) → p ≡ 10 ^ dropped → 0 < dropped → 2 * (p / 2) ≡ p
half_of_power p zero e h = absurd (omega arith)
half_of_power p (suc dropped) e h = let q : 10 ^ suc dropped ≡ 10 ^ dropped * 10 = pow-suc 10 dropped in omega arith

quotient_rounds : (sign : Sign) (x : Magnitude) (place dropped p k : ℕ) (answer : Result Ten DecimalFault)
    → dropped + x.exponent.biased ≡ place → 0 < dropped → p ≡ 10 ^ dropped
    → k ≡ (x.mantissa.digits + p / 2) / p → Nearest (with_sign sign (k * 10 ^ place)) 1 answer
    → RoundsTo (10 ^ place) (with_sign sign (size x)) answer
quotient_rounds sign x place dropped p k answer places some p_is k_is nearest =
    let m = x.mantissa.digits in
    let s = x.exponent.biased in
    let pw = ten_pow_pos dropped in
    let p_pos : 0 < p = omega arith in
    let q : 10 ^ dropped * 10 ^ s ≡ 10 ^ place = power_parts dropped s place places in
    let step : p * 10 ^ s ≡ 10 ^ place = ap (λ t. t * 10 ^ s) p_is ∙ q in
    let low : (m + p / 2) / p * p ≤ m + p / 2 = div-mul-le_self (m + p / 2) p in
    let high : m + p / 2 < (m + p / 2) / p * p + p = lt-div-mul-add p_pos in
    let kp : k * p ≡ (m + p / 2) / p * p = ap (λ t. t * p) k_is in
    let l = steps_low m p (10 ^ s) k (omega arith) in
    let h = steps_high m p (10 ^ s) k (ten_pow_pos s) (half_of_power p dropped p_is some) (omega arith) in
    let L : ℕ → Type 0 = λ t. 2 * (k * t) ≤ 2 * (m * 10 ^ s) + t in
    let H : ℕ → Type 0 = λ t. 2 * (m * 10 ^ s) + t < 2 * ((k + 1) * t) in
    rounds_of sign (m * 10 ^ s) k (10 ^ place) answer (size_pos x) (subst L step l) (subst H step h) nearest

-- A rounded quotient that is zero.
pub quotient_rounds_to_zero : (sign : Sign) (x : Magnitude) (place dropped p k : ℕ) → dropped + x.exponent.biased ≡ place → 0 < dropped
    → p ≡ 10 ^ dropped → k ≡ (x.mantissa.digits + p / 2) / p → k ≡ 0 → RoundsTo (10 ^ place) (with_sign sign (size x)) (Ok Zero)
quotient_rounds_to_zero sign x place dropped p k places some p_is k_is none =
    let e : k * 10 ^ place ≡ 0 = ap (λ t. t * 10 ^ place) none ∙ omega arith in
    quotient_rounds sign x place dropped p k (Ok Zero) places some p_is k_is
    (nearest_of_zero (with_sign sign (k * 10 ^ place)) 1 (Ok Zero) (signed-zero sign (k * 10 ^ place) e) refl)

pub at_unit_scale : (k place : ℕ) → (k * 10 ^ place) * 10 ^ 128 ≡ (k * 10 ^ (place + 128)) * 1
at_unit_scale k place = let p = ap (λ t. k * t) (pow-add 10 place 128) in omega (arith, p)

-- A rounded quotient that is not zero, rounded to ten digits.
pub quotient_rounds_to_steps : (sign : Sign) (x : Magnitude) (place dropped p k : ℕ) (answer : Result Ten DecimalFault)
    → dropped + x.exponent.biased ≡ place → 0 < dropped → p ≡ 10 ^ dropped → k ≡ (x.mantissa.digits + p / 2) / p → 0 < k
    → RoundsWhole sign k (place + 128) answer → RoundsTo (10 ^ place) (with_sign sign (size x)) answer
quotient_rounds_to_steps sign x place dropped p k answer places some p_is k_is k_pos rounds =
    quotient_rounds sign x place dropped p k answer places some p_is k_is
    (nearest_of (with_sign sign (k * 10 ^ place)) 1 sign (k * 10 ^ place) answer refl (mul-pos k_pos (ten_pow_pos place))
    (rounds (Fraction (k * 10 ^ place) 1) (exact_fraction (k * 10 ^ place) 1 k (place + 128) (omega arith) (at_unit_scale k place))))
