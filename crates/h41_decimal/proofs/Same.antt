-- Decimals with the same value are the same.
use Rattle.std.proofs.Common.{◌≡◌, ℕ, ◌*◌, ◌^◌, ◌<◌, ◌≤◌, sym, ◌∙◌, ap, refl, subst, arith, Option, Some, None, ⊎_elim}
use Rattle.std.specs.Prelude.{pos, unsigned_abs}
use Rattle.std.specs.Option.{option_map}
use Rattle.std.proofs.lemmas.Bool.{cases_lt}
use Rattle.std.proofs.Math.Bridge.{le_prop}
use Rattle.std.proofs.Math.Nat.{eq_of_mul-eq-mul_right}
use Rattle.h41_decimal.specs.Signs.{with_sign, sign_of}
use Rattle.h41_decimal.specs.Units.{size, units}
use Rattle.h41_decimal.specs.declared.parts.Mantissa.{Mantissa}
use Rattle.h41_decimal.specs.declared.parts.Exponent.{Exponent}
use Rattle.h41_decimal.specs.declared.parts.Magnitude.{Magnitude}
use Rattle.h41_decimal.specs.declared.sign.Sign.{Sign}
use Rattle.h41_decimal.specs.declared.ten.Ten.{Ten}
use Rattle.h41_decimal.specs.declared.ten.Ten.TheVariants.{Zero, Nonzero}
use Rattle.h41_decimal.proofs.Nearest.{ten_pow_pos}
use Rattle.h41_decimal.proofs.Steps.{sign_of-signed}
use Rattle.h41_decimal.proofs.Tens.{size_pos, unsigned_abs-signed, lower_exponent}

mantissa_at : (d : ℕ) → 10 ^ 9 ≤ d → d < 10 ^ 10 → Mantissa
mantissa_at d h k = record { digits = d; at_least = h; below = k }

same_mantissa : (x y : Mantissa) → x.digits ≡ y.digits → x ≡ y
unfolding mantissa_at
same_mantissa x y e =
    let P : ℕ → Type 0 = λ d. (h : 10 ^ 9 ≤ d) (k : d < 10 ^ 10) → x ≡ mantissa_at d h k in
    subst P e
    (λ h k. ap (λ t. mantissa_at x.digits t x.below) (le_prop x.at_least h) ∙ ap (λ t. mantissa_at x.digits h t) (le_prop x.below k))
    y.at_least y.below

exponent_at : (s : ℕ) → s ≤ 198 → Exponent
exponent_at s h = record { biased = s; in_range = h }

same_exponent_of : (x y : Exponent) → x.biased ≡ y.biased → x ≡ y
unfolding exponent_at
same_exponent_of x y e =
    let P : ℕ → Type 0 = λ s. (h : s ≤ 198) → x ≡ exponent_at s h in
    subst P e (λ h. ap (λ t. exponent_at x.biased t) (le_prop x.in_range h)) y.in_range

size_at : Mantissa → Exponent → Magnitude
size_at m k = record { mantissa = m; exponent = k }

same_parts : (x y : Magnitude) → x.mantissa ≡ y.mantissa → x.exponent ≡ y.exponent → x ≡ y
unfolding size_at
same_parts x y e f = ap (λ m. size_at m x.exponent) e ∙ ap (λ k. size_at y.mantissa k) f

-- Numbers of which neither is less are equal.
pub neither_less : (a b : ℕ) → (a < b → ⊥) → (b < a → ⊥) → a ≡ b
neither_less a b up down =
    ⊎_elim
    (λ (less : a < b). absurd (up less))
    (λ (ge : b ≤ a). ⊎_elim (λ (less : b < a). absurd (down less)) (λ (le : a ≤ b). omega arith) (cases_lt b a))
    (cases_lt a b)

-- Sizes with the same value have the same exponent, and so the same digits.
pub one_exponent : (m n s t : ℕ) → 10 ^ 9 ≤ m → m < 10 ^ 10 → 10 ^ 9 ≤ n → n < 10 ^ 10 → m * 10 ^ s ≡ n * 10 ^ t → s ≡ t
one_exponent m n s t m_least m_below n_least n_below e =
    neither_less s t
    (λ less. let h = lower_exponent m n s t m_below n_least less in omega arith)
    (λ less. let h = lower_exponent n m t s n_below m_least less in omega arith)

same_sizes : (x y : Magnitude) → size x ≡ size y → x ≡ y
same_sizes x y e =
    let s = x.exponent.biased in
    let t = y.exponent.biased in
    let m = x.mantissa.digits in
    let n = y.mantissa.digits in
    let st : s ≡ t = one_exponent m n s t x.mantissa.at_least x.mantissa.below y.mantissa.at_least y.mantissa.below e in
    let f : m * 10 ^ s ≡ n * 10 ^ s = e ∙ ap (λ k. n * 10 ^ k) (sym st) in
    let mn : m ≡ n = eq_of_mul-eq-mul_right (10 ^ s) (ten_pow_pos s) m n f in
    same_parts x y (same_mantissa x.mantissa y.mantissa mn) (same_exponent_of x.exponent y.exponent st)

no_zero : (s : Sign) (y : Magnitude) → pos 0 ≡ with_sign s (size y) → ⊥
no_zero s y e =
    let a : 0 ≡ size y = ap unsigned_abs e ∙ unsigned_abs-signed s (size y) in
    let h = size_pos y in
    omega arith

pub units_injective : (x y : Ten) → units x ≡ units y → x ≡ y
units_injective Zero Zero e = refl
units_injective Zero (Nonzero t y) e = absurd (no_zero t y e)
units_injective (Nonzero s x) Zero e = absurd (no_zero s x (sym e))
units_injective (Nonzero s x) (Nonzero t y) e =
    let sizes : size x ≡ size y = sym (unsigned_abs-signed s (size x)) ∙ (ap unsigned_abs e ∙ unsigned_abs-signed t (size y)) in
    let signs : s ≡ t = sym (sign_of-signed s (size x) (size_pos x)) ∙ (ap sign_of e ∙ sign_of-signed t (size y) (size_pos y)) in
    let xy : x ≡ y = same_sizes x y sizes in
    cc

-- The number that a register contains is the one that was written.
pub option_injective : (o : Option Ten) (x : Ten) → option_map units o ≡ Some (units x) → o ≡ Some x
option_injective None x e = cc
option_injective (Some y) x e =
    let f : units y ≡ units x = cc in
    ap Some (units_injective y x f)
