-- Powers of ten, and quotients by them.
use Rattle.std.specs.Prelude.{◌≡◌, ℕ, suc, ◌+◌, ◌*◌, ◌/◌, ◌^◌, ◌<◌, ◌≤◌, refl}
use Rattle.std.proofs.Common.{ap, ◌∙◌, arith, inl, inr}
use Rattle.std.proofs.Math.Nat.{pow-suc, one-le-pow, pow-le-pow_right, mul-div-mul_right, mul-div_cancel, mul-le-mul_right}
use Rattle.std.proofs.Math.Nat.{mul-lt-mul_of_pos_right}
use Rattle.std.proofs.lemmas.Nat.{pow-add}
use Rattle.std.proofs.lemmas.Bool.{cases_lt}

pub power_pos : (k : ℕ) → 0 < 10 ^ k
power_pos k = one-le-pow k 10 (omega arith)

-- A number between two neighbouring powers has only one exponent.
pub power_below : (a b n : ℕ) → 10 ^ a ≤ n → n < 10 ^ b → a < b
power_below a b n low high = elim (cases_lt a b) [
  | inl less ↦ less
  | inr not ↦ let up : 10 ^ b ≤ 10 ^ a = pow-le-pow_right (omega arith) not in absurd (omega arith)
]

-- Powers as products.
pub power_split : (a b c : ℕ) → a ≡ b + c → 10 ^ a ≡ 10 ^ b * 10 ^ c
power_split a b c e = ap (λ k. 10 ^ k) e ∙ pow-add 10 b c

-- Digits at a power of ten.
pub scaled_low : (d s k : ℕ) → 10 ^ k ≤ d → 10 ^ (k + s) ≤ d * 10 ^ s
scaled_low d s k low =
    let p = power_split (k + s) k s refl in
    let q : 10 ^ k * 10 ^ s ≤ d * 10 ^ s = mul-le-mul_right (10 ^ s) low in
    omega arith

pub scaled_high : (d s k : ℕ) → d < 10 ^ k → d * 10 ^ s < 10 ^ (k + s)
scaled_high d s k high =
    let p = power_split (k + s) k s refl in
    let q : d * 10 ^ s < 10 ^ k * 10 ^ s = mul-lt-mul_of_pos_right high (power_pos s) in
    omega arith

-- A quotient by a power of ten.
pub shifted : (c k j f : ℕ) → k ≡ f + j → c * 10 ^ k / 10 ^ j ≡ c * 10 ^ f
shifted c k j f e =
    let p = power_split k f j e in
    let q : c * 10 ^ k ≡ c * 10 ^ f * 10 ^ j = ap (λ t. c * t) p ∙ (omega arith) in
    ap (λ t. t / 10 ^ j) q ∙ mul-div_cancel (c * 10 ^ f) (power_pos j)

pub scaled_quotient : (d s k : ℕ) → d * 10 ^ s / 10 ^ (k + s) ≡ d / 10 ^ k
scaled_quotient d s k =
    let p = power_split (k + s) k s refl in
    ap (λ t. d * 10 ^ s / t) p ∙ mul-div-mul_right d (10 ^ k) (power_pos s)

pub pow-lt-pow : (a b : ℕ) → a < b → 10 ^ a < 10 ^ b
pow-lt-pow a b less =
    let up : 10 ^ suc a ≤ 10 ^ b = pow-le-pow_right (omega arith) less in
    let next = pow-suc 10 a in
    let some = power_pos a in
    omega arith
