-- The first five decimals of a number.
use Rattle.std.proofs.Common.{◌≡◌, ℕ, ◌+◌, ◌-◌, ◌*◌, ◌/◌, ◌^◌, ◌<◌, ◌≤◌, ⊎_elim, ap, arith, rules}
use Rattle.std.proofs.Math.Nat.{mul-le-mul_right, mul-lt-mul_of_pos_right, pow-le-pow_right}
use Rattle.std.proofs.lemmas.Nat.{div-mul-add}
use Rattle.std.proofs.lemmas.Bool.{cases_lt}
use Rattle.h41_decimal.specs.WholeParts.{HasOnes}
use Rattle.h41_decimal.proofs.Cuts.{power_parts}
use Rattle.h41_decimal.proofs.Nearest.{ten_pow_pos}

-- A size below 1 has a low exponent.
pub low_exponent : (m b : ℕ) → 10 ^ 9 ≤ m → m * 10 ^ b < 10 ^ 108 → b ≤ 98
low_exponent m b large below =
    ⊎_elim
    (λ (high : 98 < b).
    absurd
    (let ten : 0 < 10 = omega arith in
    let le : 99 ≤ b = omega arith in
    let p : 10 ^ 99 ≤ 10 ^ b = pow-le-pow_right ten le in
    let a : 10 ^ 9 * 10 ^ b ≤ m * 10 ^ b = mul-le-mul_right (10 ^ b) large in
    omega arith))
    (λ (low : b ≤ 98). low)
    (cases_lt 98 b)

quotient_of : (size ones d : ℕ) → ones * d ≤ size → size < (ones + 1) * d → size / d ≡ ones
quotient_of size ones d low high = search (rules, div-mul-add)

shifted : (m b : ℕ) → m * 10 ^ (b + 5) ≡ m * 10 ^ b * 100000
shifted m b =
    let p : 10 ^ b * 10 ^ 5 ≡ 10 ^ (b + 5) = power_parts b 5 (b + 5) (omega arith) in
    let q : m * (10 ^ b * 10 ^ 5) ≡ m * 10 ^ (b + 5) = ap (λ t. m * t) p in
    omega arith

-- The integer part after the radix mark is moved five places to the right.
pub shifted_ones : (m b n : ℕ) → HasOnes (m * 10 ^ (b + 5)) n → n ≡ m * 10 ^ b / 10 ^ 103
shifted_ones m b n has = search (rules, shifted, quotient_of)

pub not_many : (m b : ℕ) → m < 10 ^ 10 → b ≤ 103 → m * 10 ^ (b + 5) < 10 ^ 10 * 10 ^ 108
not_many m b below low =
    let ten : 0 < 10 = omega arith in
    let le : b + 5 ≤ 108 = omega arith in
    let p : 10 ^ (b + 5) ≤ 10 ^ 108 = pow-le-pow_right ten le in
    let a : m * 10 ^ (b + 5) < 10 ^ 10 * 10 ^ (b + 5) = mul-lt-mul_of_pos_right below (ten_pow_pos (b + 5)) in
    omega arith
