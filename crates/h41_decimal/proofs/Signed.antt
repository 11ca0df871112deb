-- Sizes with signs.
use Rattle.std.proofs.Common.{◌≡◌, ℕ, zero, suc, ◌+◌, ◌*◌, ◌<◌, sym, ◌∙◌, refl, subst, arith, Result, Ok, Bool, false, MatchBool}
use Rattle.std.proofs.lemmas.Bool.Decides.{nat_tests}
use Rattle.std.specs.Prelude.{ℤ, pos, negsuc, neg_ℤ, ◌+ℤ◌, ◌-ℤ◌, ◌*ℤ◌, ◌==◌}
use Rattle.std.proofs.lemmas.Int.{ints}
use Rattle.std.proofs.Math.IntN.{pos-*ℤ-pos, pos-*ℤ-negsuc, negsuc-*ℤ-pos, negsuc-*ℤ-negsuc, *ℤ-zero, zero-*ℤ}
use Rattle.h41_decimal.specs.Signs.{with_sign, opposite_of, product_of}
use Rattle.h41_decimal.specs.NearestDecimal.{Fraction, IsRounded, Nearest}
use Rattle.h41_decimal.specs.declared.fault.DecimalFault.{DecimalFault}
use Rattle.h41_decimal.specs.declared.sign.Sign.{Sign}
use Rattle.h41_decimal.specs.declared.sign.Sign.TheVariants.{Plus, Minus}
use Rattle.h41_decimal.specs.declared.ten.Ten.{Ten}
use Rattle.h41_decimal.specs.declared.ten.Ten.TheVariants.{Zero}

-- A fact about a size that is not zero.
pub not_zero : (A B : Type 0) (n : ℕ) → 0 < n → B → MatchBool (n == 0) A B
not_zero A B n n_pos b =
    let f : (n == 0) ≡ false = grind (arith, nat_tests) in
    let P : Bool → Type 0 = λ t. MatchBool t A B in
    subst P (sym f) b

-- The nearest decimal of a size with a sign.
pub nearest_of : (z : ℤ) (d : ℕ) (sign : Sign) (n : ℕ) (answer : Result Ten DecimalFault) → z ≡ with_sign sign n → 0 < n
    → IsRounded sign (Fraction n d) answer → Nearest z d answer
nearest_of z d sign zero answer e n_pos rounded = absurd (omega arith)
nearest_of z d Plus (suc n) answer e n_pos rounded =
    let P : ℤ → Type 0 = λ t. Nearest t d answer in
    subst P (sym e) (not_zero (answer ≡ Ok Zero) (IsRounded Plus (Fraction (suc n) d) answer) (suc n) n_pos rounded)
nearest_of z d Minus (suc n) answer e n_pos rounded =
    let P : ℤ → Type 0 = λ t. Nearest t d answer in
    subst P (sym e) (not_zero (answer ≡ Ok Zero) (IsRounded Minus (Fraction (suc n) d) answer) (suc n) n_pos rounded)

-- The nearest decimal of zero.
pub nearest_of_zero : (z : ℤ) (d : ℕ) (answer : Result Ten DecimalFault) → z ≡ pos 0 → answer ≡ Ok Zero → Nearest z d answer
nearest_of_zero z d answer e zero_is = let P : ℤ → Type 0 = λ t. Nearest t d answer in subst P (sym e) zero_is

-- Sums and differences of sizes with one sign.
pub signed-add : (sign : Sign) (a b : ℕ) → with_sign sign a +ℤ with_sign sign b ≡ with_sign sign (a + b)
signed-add Plus a b = refl
signed-add Minus a b = omega (arith, ints)

pub signed-sub : (sign : Sign) (a b r : ℕ) → r + b ≡ a → with_sign sign a -ℤ with_sign sign b ≡ with_sign sign r
signed-sub Plus a b r e = omega (arith, ints)
signed-sub Minus a b r e = omega (arith, ints)

pub signed-sub_turned : (sign : Sign) (a b r : ℕ) → r + a ≡ b → with_sign sign a -ℤ with_sign sign b ≡ with_sign (opposite_of sign) r
signed-sub_turned Plus a b r e = omega (arith, ints)
signed-sub_turned Minus a b r e = omega (arith, ints)

pub signed-sub_same : (sign : Sign) (a b : ℕ) → a ≡ b → with_sign sign a -ℤ with_sign sign b ≡ pos 0
signed-sub_same Plus a b e = omega (arith, ints)
signed-sub_same Minus a b e = omega (arith, ints)

-- The size zero with any sign.
pub signed-zero : (sign : Sign) (n : ℕ) → n ≡ 0 → with_sign sign n ≡ pos 0
signed-zero sign zero e = zero_of sign
  where
    zero_of : (sign : Sign) → with_sign sign 0 ≡ pos 0
    zero_of Plus = refl
    zero_of Minus = refl
signed-zero sign (suc n) e = absurd (omega arith)

-- The product of two sizes with signs.
pub signed-mul : (s t : Sign) (a b : ℕ) → with_sign s a *ℤ with_sign t b ≡ with_sign (product_of s t) (a * b)
signed-mul Plus Plus a b = pos-*ℤ-pos a b
signed-mul Plus Minus a zero = *ℤ-zero (pos a) ∙ sym (signed-zero Minus (a * 0) (omega arith))
signed-mul Plus Minus a (suc b) = pos-*ℤ-negsuc a b
signed-mul Minus Plus zero b = zero-*ℤ (pos b) ∙ sym (signed-zero Minus (0 * b) (omega arith))
signed-mul Minus Plus (suc a) b = negsuc-*ℤ-pos a b
signed-mul Minus Minus zero b = zero-*ℤ (neg_ℤ (pos b)) ∙ sym (signed-zero Plus (0 * b) (omega arith))
signed-mul Minus Minus (suc a) zero = *ℤ-zero (negsuc a) ∙ sym (signed-zero Plus (suc a * 0) (omega arith))
signed-mul Minus Minus (suc a) (suc b) = negsuc-*ℤ-negsuc a b
