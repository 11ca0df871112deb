-- The negative and the absolute value of a decimal are decimals, and so is 1 with the sign of a number.
use Rattle.std.proofs.Common.{◌≡◌, ℕ, zero, suc, Ok, refl, sym, ap, ◌∙◌, subst, arith}
use Rattle.std.specs.Prelude.{ℤ, pos, negsuc, neg_ℤ, unsigned_abs}
use Rattle.std.proofs.Math.IntN.{neg_ℤ-neg_ℤ}
use Rattle.h41_decimal.specs.Laws.{DecimalIsItsNearest}
use Rattle.h41_decimal.specs.NearestDecimal.{Nearest}
use Rattle.h41_decimal.specs.Signs.{sign_of, with_sign}
use Rattle.h41_decimal.specs.Units.{one, size, units}
use Rattle.h41_decimal.specs.declared.sign.Sign.{Sign}
use Rattle.h41_decimal.specs.declared.sign.Sign.TheVariants.{Plus, Minus}
use Rattle.h41_decimal.specs.declared.ten.Ten.{Ten}
use Rattle.h41_decimal.specs.declared.ten.Ten.TheVariants.{Zero, Nonzero}

opposite_size : (n : ℕ) → unsigned_abs (neg_ℤ (pos n)) ≡ n
opposite_size zero = refl
opposite_size (suc n) = refl

signed_size : (sign : Sign) (n : ℕ) → unsigned_abs (with_sign sign n) ≡ n
signed_size Plus n = refl
signed_size Minus n = opposite_size n

pub opposite : (number : Ten) → (other : Ten) × (units other ≡ neg_ℤ (units number))
opposite Zero = (Zero, refl)
opposite (Nonzero Plus x) = (Nonzero Minus x, refl)
opposite (Nonzero Minus x) = (Nonzero Plus x, sym (neg_ℤ-neg_ℤ (pos (size x))))

pub unsigned : (number : Ten) → (other : Ten) × (units other ≡ pos (unsigned_abs (units number)))
unsigned Zero = (Zero, refl)
unsigned (Nonzero sign x) = (Nonzero Plus x, ap pos (sym (signed_size sign (size x))))

-- 1 with the sign of a number.
abbrev one_of : Sign → Ten
one_of sign =
    Nonzero sign record {
      mantissa = record { digits = 1000000000; at_least = omega arith; below = omega arith };
      exponent = record { biased = 99; in_range = omega arith };
    }

unit_ten : (n : ℤ) → (other : Ten) × (units other ≡ with_sign (sign_of n) one)
unit_ten (pos n) = (one_of Plus, refl)
unit_ten (negsuc n) = (one_of Minus, refl)

pub unit : DecimalIsItsNearest → (n : ℤ)
    → (other : Ten) × (units other ≡ with_sign (sign_of n) one) × Nearest (with_sign (sign_of n) one) 1 (Ok other)
unit itself n =
    let found = unit_ten n in
    (found.0, found.1, subst (λ (z : ℤ). Nearest z 1 (Ok found.0)) found.1 (itself found.0))

module _ (itself : DecimalIsItsNearest) (number : Ten) (n : ℤ) (is : units number ≡ n) where
  pub negative : (other : Ten) × (units other ≡ neg_ℤ n) × Nearest (neg_ℤ n) 1 (Ok other)
  negative =
      let found = opposite number in
      let same : units found.0 ≡ neg_ℤ n = found.1 ∙ ap neg_ℤ is in
      (found.0, same, subst (λ (z : ℤ). Nearest z 1 (Ok found.0)) same (itself found.0))

  pub absolute : (other : Ten) × (units other ≡ pos (unsigned_abs n)) × Nearest (pos (unsigned_abs n)) 1 (Ok other)
  absolute =
      let found = unsigned number in
      let same : units found.0 ≡ pos (unsigned_abs n) = found.1 ∙ ap (λ (z : ℤ). pos (unsigned_abs z)) is in
      (found.0, same, subst (λ (z : ℤ). Nearest z 1 (Ok found.0)) same (itself found.0))
