-- Square roots of whole numbers.
use Rattle.std.proofs.Common.{◌≡◌, ℕ, zero, suc, ◌+◌, ◌-◌, ◌*◌, ◌%◌, ◌^◌, ◌<◌, ◌≤◌, ⊎_elim, arith}
use Rattle.std.proofs.Math.Nat.{mul-le-mul, pow-le-pow_right, le_of_mul-le-mul_right}
use Rattle.std.proofs.lemmas.Bool.{cases_lt}

-- The root of a number of 11 or 12 digits has six.
pub six_digits : (n s : ℕ) → 10 ^ 10 ≤ n → n < (s + 1) * (s + 1) → 10 ^ 5 ≤ s
six_digits n s size above =
    ⊎_elim
    (λ (less : s < 10 ^ 5).
    let next : s + 1 ≤ 10 ^ 5 = omega arith in
    let square : (s + 1) * (s + 1) ≤ 10 ^ 5 * 10 ^ 5 = mul-le-mul next next in
    absurd (omega arith))
    (λ (enough : 10 ^ 5 ≤ s). enough)
    (cases_lt s (10 ^ 5))

-- Five more digits of a root s, from what its square lacks. If they are too high, one less is not.
pub more_below : (n s d e : ℕ) → s * s + d ≡ n → d ≤ 2 * s → 10 ^ 5 ≤ s → e * (2 * s) ≤ d * 10 ^ 5
    → n * 10 ^ 10 < (s * 10 ^ 5 + e) * (s * 10 ^ 5 + e)
    → (s * 10 ^ 5 + e - 1) * (s * 10 ^ 5 + e - 1) ≤ n * 10 ^ 10
more_below n s d zero n_is few s_size low above = absurd (omega arith)
more_below n s d (suc f) n_is few s_size low above =
    let some : 0 < 2 * s = omega arith in
    let all : suc f * (2 * s) ≤ 10 ^ 5 * (2 * s) = omega arith in
    let small : suc f ≤ 10 ^ 5 = le_of_mul-le-mul_right all some in
    let fits : f ≤ 10 ^ 5 = omega arith in
    let square : f * f ≤ 10 ^ 5 * 10 ^ 5 = mul-le-mul fits fits in
    let one_less : s * 10 ^ 5 + suc f - 1 ≡ s * 10 ^ 5 + f = omega arith in
    rw one_less (one_lower n s d f n_is s_size (omega arith) square)
  where
    one_lower : (n s d f : ℕ) → s * s + d ≡ n → 10 ^ 5 ≤ s → f * (2 * s) + 2 * s ≤ d * 10 ^ 5 → f * f ≤ 10 ^ 5 * 10 ^ 5
        → (s * 10 ^ 5 + f) * (s * 10 ^ 5 + f) ≤ n * 10 ^ 10
    one_lower n s d f n_is s_size low square = omega arith

-- A number of ten digits to which one or two digits are appended.
pub filled_digits : (m s p : ℕ) → 10 ^ 9 ≤ m → m < 10 ^ 10 → p ≡ 10 ^ (2 - s % 2) → (10 ^ 10 ≤ m * p) × (m * p < 10 ^ 12)
filled_digits m s p m_size m_below p_is =
    let some : 0 < 10 = omega arith in
    let least : 1 ≤ 2 - s % 2 = omega arith in
    let most : 2 - s % 2 ≤ 2 = omega arith in
    let low : 10 ^ 1 ≤ 10 ^ (2 - s % 2) = pow-le-pow_right some least in
    let high : 10 ^ (2 - s % 2) ≤ 10 ^ 2 = pow-le-pow_right some most in
    let p_low : 10 ≤ p = omega arith in
    let p_high : p ≤ 100 = omega arith in
    let m_most : m ≤ 9999999999 = omega arith in
    let a : 10 ^ 9 * 10 ≤ m * p = mul-le-mul m_size p_low in
    let b : m * p ≤ 9999999999 * 100 = mul-le-mul m_most p_high in
    (omega arith, omega arith)
