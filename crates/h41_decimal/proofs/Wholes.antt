-- The integer part and the fraction of a size, and decimals from whole numbers.
use Rattle.std.proofs.Common.{◌≡◌, ℕ, ◌+◌, ◌-◌, ◌*◌, ◌/◌, ◌%◌, ◌^◌, ◌<◌, ◌≤◌, ⊎_elim, sym, ◌∙◌, ap, refl, subst, arith}
use Rattle.std.specs.Prelude.{ℤ, pos}
use Rattle.std.proofs.Math.Nat.{mul-le-mul_right, mul-lt-mul_of_pos_right, pow-le-pow_right, div-mul-le_self, lt-div-mul-add}
use Rattle.std.proofs.lemmas.Nat.{div-add-mod', le-div}
use Rattle.std.proofs.lemmas.Bool.{cases_lt}
use Rattle.h41_decimal.specs.Signs.{with_sign}
use Rattle.h41_decimal.specs.WholeParts.{HasOnes, IsIntegerPart, IsFraction}
use Rattle.h41_decimal.specs.declared.sign.Sign.{Sign}
use Rattle.h41_decimal.proofs.Nearest.{ten_pow_pos}
use Rattle.h41_decimal.proofs.Cuts.{power_parts}
use Rattle.h41_decimal.proofs.Signed.{signed-sub, signed-zero}
use Rattle.h41_decimal.proofs.Steps.{sign_of-signed}
use Rattle.h41_decimal.proofs.Tens.{unsigned_abs-signed}

-- The whole ones of a size: below 1, with digits on both sides of the radix mark, and from 10^10 on.
pub ones_below : (m s : ℕ) → m < 10 ^ 10 → s < 99 → HasOnes (m * 10 ^ s) 0
ones_below m s small less =
    let ten : 0 < 10 = omega arith in
    let le : s ≤ 98 = omega arith in
    let p : 10 ^ s ≤ 10 ^ 98 = pow-le-pow_right ten le in
    let a : m * 10 ^ s < 10 ^ 10 * 10 ^ s = mul-lt-mul_of_pos_right small (ten_pow_pos s) in
    record { not_above = omega arith; next_above = omega arith }

ones_of_quotient : (q m p ps : ℕ) → q * p ≤ m → m < q * p + p → p * ps ≡ 10 ^ 108 → 0 < ps → HasOnes (m * ps) q
ones_of_quotient q m p ps low high e ps_pos =
    let a : (q * p) * ps ≤ m * ps = mul-le-mul_right ps low in
    let b : m * ps < (q * p + p) * ps = mul-lt-mul_of_pos_right high ps_pos in
    let c : q * (p * ps) ≡ q * 10 ^ 108 = ap (λ t. q * t) e in
    record { not_above = omega arith; next_above = omega arith }

pub ones_cut : (m s k p : ℕ) → p ≡ 10 ^ k → k + s ≡ 108 → HasOnes (m * 10 ^ s) (m / p)
ones_cut m s k p is e =
    let some : 0 < 10 ^ k = ten_pow_pos k in
    let p_pos : 0 < p = omega arith in
    ones_of_quotient (m / p) m p (10 ^ s) (div-mul-le_self m p) (lt-div-mul-add p_pos)
    (ap (λ t. t * 10 ^ s) is ∙ power_parts k s 108 e) (ten_pow_pos s)

pub all_ones : (m s : ℕ) → 108 ≤ s → m * 10 ^ (s - 108) * 10 ^ 108 ≡ m * 10 ^ s
all_ones m s high =
    let e : m * (10 ^ (s - 108) * 10 ^ 108) ≡ m * 10 ^ s = ap (λ t. m * t) (power_parts (s - 108) 108 s (omega arith)) in
    omega arith

pub ones_whole : (m s : ℕ) → 108 ≤ s → HasOnes (m * 10 ^ s) (m * 10 ^ (s - 108))
ones_whole m s high =
    let e = all_ones m s high in
    record { not_above = omega (arith, e); next_above = omega (arith, e) }

pub many_ones : (m s : ℕ) → 10 ^ 9 ≤ m → 109 ≤ s → 10 ^ 10 * 10 ^ 108 ≤ m * 10 ^ s
many_ones m s m_size high =
    let ten : 0 < 10 = omega arith in
    let p : 10 ^ 109 ≤ 10 ^ s = pow-le-pow_right ten high in
    let a : 10 ^ 9 * 10 ^ s ≤ m * 10 ^ s = mul-le-mul_right (10 ^ s) m_size in
    omega arith

-- A size consists of its whole ones and the rest.
pub split_at_ones : (m s k p : ℕ) → p ≡ 10 ^ k → k + s ≡ 108 → m % p * 10 ^ s + m / p * 10 ^ 108 ≡ m * 10 ^ s
split_at_ones m s k p is e =
    let q : p * 10 ^ s ≡ 10 ^ 108 = ap (λ t. t * 10 ^ s) is ∙ power_parts k s 108 e in
    let a : m / p * (p * 10 ^ s) ≡ m / p * 10 ^ 108 = ap (λ t. m / p * t) q in
    let b : (m / p * p + m % p) * 10 ^ s ≡ m * 10 ^ s = ap (λ t. t * 10 ^ s) (div-add-mod' m p) in
    omega arith

-- The integer part with its sign.
pub integer_of : (sign : Sign) (n ones : ℕ) (part : ℤ) → 0 < n → HasOnes n ones → part ≡ with_sign sign (ones * 10 ^ 108)
    → IsIntegerPart (with_sign sign n) part
integer_of sign n ones part n_pos has e = record {
  ones = ones;
  whole = subst (λ k. HasOnes k ones) (sym (unsigned_abs-signed sign n)) has;
  value = e ∙ ap (λ t. with_sign t (ones * 10 ^ 108)) (sym (sign_of-signed sign n n_pos));
}

pub fraction_of : (sign : Sign) (n ones r : ℕ) (fraction : ℤ) → 0 < n → HasOnes n ones → r + ones * 10 ^ 108 ≡ n → fraction
    ≡ with_sign sign r
    → IsFraction (with_sign sign n) fraction
fraction_of sign n ones r fraction n_pos has sum e = record {
  part = with_sign sign (ones * 10 ^ 108);
  integer = integer_of sign n ones (with_sign sign (ones * 10 ^ 108)) n_pos has refl;
  rest = e ∙ sym (signed-sub sign n (ones * 10 ^ 108) r sum);
}

pub no_fraction : (sign : Sign) (n ones : ℕ) → 0 < n → HasOnes n ones → ones * 10 ^ 108 ≡ n → IsFraction (with_sign sign n) (pos 0)
no_fraction sign n ones n_pos has all = fraction_of sign n ones 0 (pos 0) n_pos has (omega arith) (sym (signed-zero sign 0 refl))

-- The digits of an integer part, if some digits are after the radix mark.
pub whole_digits : (m s k p q : ℕ) → p ≡ 10 ^ k → q ≡ m / 10 ^ k → k + s ≡ 108 → k ≤ 9 → 10 ^ 9 ≤ m → m < 10 ^ 10
    → (10 ^ 9 ≤ q * p) × (q * p < 10 ^ 10) × (q * p * 10 ^ s ≡ q * 10 ^ 108)
whole_digits m s k p q p_is q_is e few m_size m_below =
    let w : 10 ^ k * 10 ^ s ≡ 10 ^ 108 = power_parts k s 108 e in
    let parts : 10 ^ (9 - k) * 10 ^ k ≡ 10 ^ 9 = power_parts (9 - k) k 9 (omega arith) in
    let least : 10 ^ (9 - k) ≤ m / 10 ^ k = le-div (10 ^ (9 - k)) m (10 ^ k) (ten_pow_pos k) (omega arith) in
    let least_q : 10 ^ (9 - k) ≤ q = omega arith in
    let low : 10 ^ (9 - k) * 10 ^ k ≤ q * 10 ^ k = mul-le-mul_right (10 ^ k) least_q in
    let high : m / 10 ^ k * 10 ^ k ≤ m = div-mul-le_self m (10 ^ k) in
    let qp : q * p ≡ q * 10 ^ k = ap (λ t. q * t) p_is in
    let mp : q * 10 ^ k ≡ m / 10 ^ k * 10 ^ k = ap (λ t. t * 10 ^ k) q_is in
    let scaled : q * p * 10 ^ s ≡ q * 10 ^ k * 10 ^ s = ap (λ t. t * 10 ^ s) qp in
    let whole : q * (10 ^ k * 10 ^ s) ≡ q * 10 ^ 108 = ap (λ t. q * t) w in
    (omega arith, omega arith, omega arith)

-- A number of up to ten digits, filled with zeros.
pub few_digits : (count number : ℕ) → 10 ^ count ≤ 10 * number → number < 10 ^ 10 → count ≤ 10
few_digits count number least few =
    ⊎_elim
    (λ (more : 10 < count).
    absurd (let ten : 0 < 10 =
    omega arith in
    let le : 11 ≤ count = omega arith in let p : 10 ^ 11 ≤ 10 ^ count = pow-le-pow_right ten le in omega arith))
    (λ (fits : count ≤ 10). fits)
    (cases_lt 10 count)

pub ten_of_fewer : (number count missing p : ℕ) → p ≡ 10 ^ missing → count + missing ≡ 10 → 10 ^ count ≤ 10 * number → number < 10 ^ count
    → (10 ^ 9 ≤ number * p) × (number * p < 10 ^ 10)
ten_of_fewer number count missing p is e least next =
    let parts : 10 ^ count * 10 ^ missing ≡ 10 ^ 10 = power_parts count missing 10 e in
    let same : 10 ^ count * p ≡ 10 ^ count * 10 ^ missing = ap (λ t. 10 ^ count * t) is in
    let some : 0 < 10 ^ missing = ten_pow_pos missing in
    let p_pos : 0 < p = omega arith in
    let a : 10 ^ count * p ≤ (10 * number) * p = mul-le-mul_right p least in
    let b : number * p < 10 ^ count * p = mul-lt-mul_of_pos_right next p_pos in
    (omega arith, omega arith)

pub filled_worth : (number missing steps p : ℕ) → p ≡ 10 ^ missing → missing ≤ steps
    → number * p * 10 ^ (steps - missing) ≡ number * 10 ^ steps
filled_worth number missing steps p is le =
    let q : p * 10 ^ (steps - missing) ≡ 10 ^ steps =
    ap (λ t. t * 10 ^ (steps - missing)) is ∙ power_parts missing (steps - missing) steps (omega arith) in
    let a : number * (p * 10 ^ (steps - missing)) ≡ number * 10 ^ steps = ap (λ t. number * t) q in
    omega arith

-- The fraction of zero.
pub zero_fraction : IsFraction (pos 0) (pos 0)
zero_fraction = record {
  part = pos 0;
  integer = record { ones = 0; whole = record { not_above = omega arith; next_above = omega arith }; value = refl };
  rest = refl;
}
