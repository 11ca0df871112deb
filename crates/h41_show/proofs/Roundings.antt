-- Sizes as the display rounds them.
use Rattle.std.specs.Prelude.{◌≡◌, ℕ, zero, suc, ◌+◌, ◌-◌, ◌*◌, ◌/◌, ◌^◌, ◌<◌, ◌≤◌, nat_le, cond, true, false, refl}
use Rattle.std.specs.List.{count_by, range_with_len}
use Rattle.std.proofs.Common.{ap, sym, ◌∙◌, arith, inl, inr, subst, lt_of_lt_of_le, rules}
use Rattle.std.proofs.Math.Nat.{pow-suc, pow-le-pow_right, mul-div-mul_right}
use Rattle.std.proofs.lemmas.Nat.{le-div, div_below}
use Rattle.std.proofs.lemmas.List.Sums.{sum_by-cons}
use Rattle.std.proofs.lemmas.Bool.{cases_lt}
use Rattle.std.proofs.lemmas.Bool.Decides.{nat_tests}
use Rattle.h41_decimal.specs.Units.{one}
use Rattle.h41_show.specs.Rounding.{nearest, exponent_of, rounded_size}
use Rattle.h41_show.proofs.Powers.{power_pos, pow-lt-pow, power_split, scaled_low, scaled_high, scaled_quotient}

-- None of the powers from a number's next one up is at most the number.
none_above : (k n start size : ℕ) → k < start → size < 10 ^ (k + 1)
    → count_by (λ power. nat_le (10 ^ power) size) (range_with_len start n) ≡ 0
none_above k zero start size above high = refl
none_above k (suc n) start size above high =
    let next : k + 1 ≤ start = omega arith in
    let up : 10 ^ (k + 1) ≤ 10 ^ start = pow-le-pow_right (omega arith) next in
    let test : nat_le (10 ^ start) size ≡ false = grind (arith, nat_tests) in
    let rest = none_above k n (start + 1) size (omega arith) high in
    sum_by-cons (λ power. cond (nat_le (10 ^ power) size) 1 0) start (range_with_len (start + 1) n)
    ∙ ap (λ b. cond b 1 0 + count_by (λ power. nat_le (10 ^ power) size) (range_with_len (start + 1) n)) test ∙ (omega arith)

-- The count of powers up to that of a number's first digit.
counted : (k n start size : ℕ) → start ≤ k + 1 → k + 1 ≤ start + n → 10 ^ k ≤ size → size < 10 ^ (k + 1)
    → count_by (λ power. nat_le (10 ^ power) size) (range_with_len start n) ≡ k + 1 - start
counted k zero start size from to low high = omega arith
counted k (suc n) start size from to low high = elim (cases_lt k start) [
  | inl above ↦ none_above k (suc n) start size above high ∙ (omega arith)
  | inr within ↦
      let up : 10 ^ start ≤ 10 ^ k = pow-le-pow_right (omega arith) within in
      let test : nat_le (10 ^ start) size ≡ true = grind (arith, nat_tests) in
      let rest = counted k n (start + 1) size (omega arith) (omega arith) low high in
      sum_by-cons (λ power. cond (nat_le (10 ^ power) size) 1 0) start (range_with_len (start + 1) n)
      ∙ ap (λ b. cond b 1 0 + count_by (λ power. nat_le (10 ^ power) size) (range_with_len (start + 1) n)) test ∙ (omega arith)
]

pub exponent_of-digits : (k n : ℕ) → k ≤ 207 → 10 ^ k ≤ n → n < 10 ^ (k + 1) → exponent_of n ≡ k
unfolding exponent_of
exponent_of-digits k n within low high = counted k 207 1 n (omega arith) (omega arith) low high ∙ (omega arith)

-- Digits and steps at one power of ten are rounded as they are without it.
pub nearest_scaled : (d p q : ℕ) → 0 < q → nearest (d * q) (p * q) ≡ nearest d p
nearest_scaled d p q some =
    let above : 2 * (d * q) + p * q ≡ (2 * d + p) * q = omega arith in
    let below : 2 * (p * q) ≡ (2 * p) * q = omega arith in
    rw (above, below) (mul-div-mul_right (2 * d + p) (2 * p) some)

-- Half a power of ten is added before the quotient.
pub nearest-half : (d k : ℕ) → (d + 10 ^ k / 2) / 10 ^ k ≡ nearest d (10 ^ k)
nearest-half d zero = omega arith
nearest-half d (suc j) =
    let h = 10 ^ j * 5 in
    let power : 10 ^ suc j ≡ 2 * h = pow-suc 10 j ∙ (omega arith) in
    let half : 2 * h / 2 ≡ h = omega arith in
    let above : 2 * d + 2 * h ≡ (d + h) * 2 = omega arith in
    let below : 2 * (2 * h) ≡ (2 * h) * 2 = omega arith in
    let cancel : (d + h) * 2 / ((2 * h) * 2) ≡ (d + h) / (2 * h) = mul-div-mul_right (d + h) (2 * h) (omega arith) in
    rw (power, half, above, below) (sym cancel)

-- Bounds of the nearest number of steps.
pub nearest_low : (d p c : ℕ) → 0 < p → c * p ≤ d → c ≤ nearest d p
nearest_low d p c some low = le-div c (2 * d + p) (2 * p) (omega arith) (omega arith)

pub nearest_high : (d p c : ℕ) → 0 < p → d < c * p → nearest d p ≤ c
nearest_high d p c some high = search (rules, div_below)

-- Ten digits of which some are dropped.
module _ (d m : ℕ) (few : m ≤ 7) (low : 10 ^ 9 ≤ d) (high : d < 10 ^ 10) where
  parts : 10 ^ 9 ≡ 10 ^ m * 10 ^ (9 - m)
  parts = power_split 9 m (9 - m) (omega arith)

  parts_above : 10 ^ 10 ≡ 10 ^ (m + 1) * 10 ^ (9 - m)
  parts_above = power_split 10 (m + 1) (9 - m) (omega arith)

  pub near_low : 10 ^ m ≤ nearest d (10 ^ (9 - m))
  near_low = nearest_low d (10 ^ (9 - m)) (10 ^ m) (power_pos (9 - m)) (subst (λ t. t ≤ d) parts low)

  pub near_high : nearest d (10 ^ (9 - m)) ≤ 10 ^ (m + 1)
  near_high = nearest_high d (10 ^ (9 - m)) (10 ^ (m + 1)) (power_pos (9 - m)) (subst (λ t. d < t) parts_above high)

  pub cut_low : 10 ^ m ≤ d / 10 ^ (9 - m)
  cut_low = le-div (10 ^ m) d (10 ^ (9 - m)) (power_pos (9 - m)) (subst (λ t. t ≤ d) parts low)

  pub cut_high : d / 10 ^ (9 - m) < 10 ^ (m + 1)
  cut_high = div_below d (10 ^ (9 - m)) (10 ^ (m + 1)) (power_pos (9 - m)) (subst (λ t. d < t) parts_above high)

-- A size is rounded to the nearest one if that is below 10^100.
rounded_near : (m n e c : ℕ) → exponent_of n ≡ e → nearest n (10 ^ (e - m)) ≡ c → c * 10 ^ (e - m) < 10 ^ 100 * one
    → rounded_size m n ≡ c * 10 ^ (e - m)
unfolding rounded_size
rounded_near m n e c exponent count below = search (rules, nat_tests, count)

-- Otherwise it is cut.
rounded_cut : (m n e c : ℕ) → exponent_of n ≡ e → nearest n (10 ^ (e - m)) ≡ c → 10 ^ 100 * one ≤ c * 10 ^ (e - m)
    → rounded_size m n ≡ n / 10 ^ (e - m) * 10 ^ (e - m)
unfolding rounded_size
rounded_cut m n e c exponent count above = search (rules, nat_tests, count)

top : 10 ^ 100 * one ≡ 10 ^ 208
top = refl

-- A size of ten digits at a power of ten, up to exponent 99.
module _ (d s m : ℕ) (few : m ≤ 7) (small : s ≤ 198) (low : 10 ^ 9 ≤ d) (high : d < 10 ^ 10) where
  pub exponent_of-size : exponent_of (d * 10 ^ s) ≡ s + 9
  exponent_of-size =
      exponent_of-digits (s + 9) (d * 10 ^ s) (omega arith)
      (subst (λ k. 10 ^ k ≤ d * 10 ^ s) (let e : 9 + s ≡ s + 9 = omega arith in e) (scaled_low d s 9 low))
      (subst (λ k. d * 10 ^ s < 10 ^ k) (let e : 10 + s ≡ s + 9 + 1 = omega arith in e) (scaled_high d s 10 high))

  step : 10 ^ (s + 9 - m) ≡ 10 ^ (9 - m) * 10 ^ s
  step = power_split (s + 9 - m) (9 - m) s (omega arith)

  count : nearest (d * 10 ^ s) (10 ^ (s + 9 - m)) ≡ nearest d (10 ^ (9 - m))
  count = ap (nearest (d * 10 ^ s)) step ∙ nearest_scaled d (10 ^ (9 - m)) (10 ^ s) (power_pos s)

  pub rounded_within : nearest d (10 ^ (9 - m)) < 10 ^ (m + 1) → nearest d (10 ^ (9 - m)) * 10 ^ (s + 9 - m) ≡ rounded_size m (d * 10 ^ s)
  rounded_within less =
      let c = nearest d (10 ^ (9 - m)) in
      let below : c * 10 ^ (s + 9 - m) < 10 ^ (m + 1 + (s + 9 - m)) = scaled_high c (s + 9 - m) (m + 1) less in
      let within : m + 1 + (s + 9 - m) ≤ 208 = omega arith in
      let most : 10 ^ (m + 1 + (s + 9 - m)) ≤ 10 ^ 208 = pow-le-pow_right (omega arith) within in
      sym (rounded_near m (d * 10 ^ s) (s + 9) c exponent_of-size count
      (subst (λ t. c * 10 ^ (s + 9 - m) < t) (sym top) (lt_of_lt_of_le below most)))

  carried : 10 ^ (m + 1) ≤ nearest d (10 ^ (9 - m)) → nearest d (10 ^ (9 - m)) * 10 ^ (s + 9 - m) ≡ 10 ^ (s + 10)
  carried not =
      let most = near_high d m few low high in
      let is : nearest d (10 ^ (9 - m)) ≡ 10 ^ (m + 1) = omega arith in
      ap (λ t. t * 10 ^ (s + 9 - m)) is ∙ sym (power_split (s + 10) (m + 1) (s + 9 - m) (omega arith))

  pub rounded_up : 10 ^ (m + 1) ≤ nearest d (10 ^ (9 - m)) → s < 198 → 10 ^ m * 10 ^ (s + 1 + 9 - m) ≡ rounded_size m (d * 10 ^ s)
  rounded_up not less =
      let c = nearest d (10 ^ (9 - m)) in
      let value = carried not in
      let below : 10 ^ (s + 10) < 10 ^ 208 = pow-lt-pow (s + 10) 208 (omega arith) in
      let same : 10 ^ m * 10 ^ (s + 1 + 9 - m) ≡ 10 ^ (s + 10) = sym (power_split (s + 10) m (s + 1 + 9 - m) (omega arith)) in
      same
      ∙ (sym value
      ∙ sym (rounded_near m (d * 10 ^ s) (s + 9) c exponent_of-size count
      (subst (λ t. t < 10 ^ 100 * one) (sym value) (subst (λ t. 10 ^ (s + 10) < t) (sym top) below))))

  pub rounded_down : 10 ^ (m + 1) ≤ nearest d (10 ^ (9 - m)) → 198 ≤ s → d / 10 ^ (9 - m) * 10 ^ (s + 9 - m) ≡ rounded_size m (d * 10 ^ s)
  rounded_down not large =
      let c = nearest d (10 ^ (9 - m)) in
      let value = carried not in
      let reached : 208 ≤ s + 10 = omega arith in
      let above : 10 ^ 208 ≤ 10 ^ (s + 10) = pow-le-pow_right (omega arith) reached in
      let quotient : d * 10 ^ s / 10 ^ (s + 9 - m) ≡ d / 10 ^ (9 - m) =
      ap (λ k. d * 10 ^ s / 10 ^ k) (let e : s + 9 - m ≡ 9 - m + s = omega arith in e) ∙ scaled_quotient d s (9 - m) in
      ap (λ t. t * 10 ^ (s + 9 - m)) (sym quotient)
      ∙ sym (rounded_cut m (d * 10 ^ s) (s + 9) c exponent_of-size count
      (subst (λ t. 10 ^ 100 * one ≤ t) (sym value) (subst (λ t. t ≤ 10 ^ (s + 10)) (sym top) above)))
