-- The nearest decimal of ten digits, halves away from zero, defined by comparisons of whole numbers
-- alone.
use Rattle.std.specs.Prelude.{◌≡◌, ℕ, ◌+◌, ◌*◌, ◌^◌, ◌<◌, ◌≤◌, ◌==◌, nat_le, MatchBool, IsOkAnd, Ok}
use Rattle.std.specs.Prelude.{Err, Result, ℤ, pos, negsuc, unsigned_abs}
use Rattle.h41_decimal.specs.Signs.{with_sign, sign_of}
use Rattle.h41_decimal.specs.Units.{one, size_of, units}
use Rattle.h41_decimal.specs.declared.fault.DecimalFault.{DecimalFault}
use Rattle.h41_decimal.specs.declared.fault.DecimalFault.TheVariants.{Data, Range}
use Rattle.h41_decimal.specs.declared.sign.Sign.{Sign}
use Rattle.h41_decimal.specs.declared.sign.Sign.TheVariants.{Plus}
use Rattle.h41_decimal.specs.declared.ten.Ten.{Ten}
use Rattle.h41_decimal.specs.declared.ten.Ten.TheVariants.{Zero}

-- An exact size greater than zero, in units: a fraction of whole numbers, or the square root of a
-- whole number.
pub data Exact : Type 0 where
  Fraction : ℕ → ℕ → Exact
  RootOf : ℕ → Exact

-- The exact size is less than above/below, by cross multiplication; for a root, by squares.
abbrev pub IsBelow : Exact → ℕ → ℕ → Type 0
IsBelow (Fraction n d) above below = n * below < above * d
IsBelow (RootOf n) above below = n * (below * below) < above * above

-- The exact size is at least above/below.
abbrev pub IsAtLeast : Exact → ℕ → ℕ → Type 0
IsAtLeast (Fraction n d) above below = above * d ≤ n * below
IsAtLeast (RootOf n) above below = above * above ≤ n * (below * below)

-- Ten digits, the first of which is not zero.
pub record IsTenDigits (digits : ℕ) : Type 0 where
  pub at_least : 10 ^ 9 ≤ digits
  pub below : digits < 10 ^ 10

-- The decimal r = digits * 10^up / 10^down is nearest to an exact size v: for each larger decimal
-- s, v < (r + s) / 2, and for each smaller one, v ≥ (r + s) / 2, so that halves are rounded up.
-- Here s is any ten digits times or divided by any power of ten, and both are written with the
-- common denominator of r and s, which is the product of their denominators.
pub record IsNear (exact : Exact) (digits up down : ℕ) : Type 0 where
  pub larger : (others a b : ℕ) → IsTenDigits others
      → digits * (10 ^ up * 10 ^ b) < others * (10 ^ a * 10 ^ down)
      → IsBelow exact (digits * (10 ^ up * 10 ^ b) + others * (10 ^ a * 10 ^ down))
      (2 * (10 ^ down * 10 ^ b))
  pub smaller : (others a b : ℕ) → IsTenDigits others
      → others * (10 ^ a * 10 ^ down) < digits * (10 ^ up * 10 ^ b)
      → IsAtLeast exact (digits * (10 ^ up * 10 ^ b) + others * (10 ^ a * 10 ^ down))
      (2 * (10 ^ down * 10 ^ b))

-- The power of ten in the numerator, for an exponent plus 99.
abbrev pub up_of : ℤ → ℕ
up_of (pos steps) = steps
up_of (negsuc steps) = 0

-- The power of ten in the denominator, for an exponent plus 99.
abbrev pub down_of : ℤ → ℕ
down_of (pos steps) = 0
down_of (negsuc steps) = steps + 1

-- The result for ten digits and an exponent plus 99: if the exponent is above 99 it is out of
-- range, if below -99 zero.
abbrev pub IsBounded : Sign → ℕ → ℤ → Result Ten DecimalFault → Type 0
IsBounded sign digits (negsuc steps) answer = answer ≡ Ok Zero
IsBounded sign digits (pos steps) answer =
    MatchBool (nat_le steps 198)
    (IsOkAnd answer (λ number. units number ≡ with_sign sign (size_of digits steps)))
    (answer ≡ Err Range)

-- The result for an exact size greater than zero and a sign: its nearest decimal, whatever the
-- exponent, within the bounds of exponents.
pub record IsRounded (sign : Sign) (exact : Exact) (answer : Result Ten DecimalFault) : Type 0 where
  pub digits : ℕ
  pub exponent : ℤ
  pub ten_digits : IsTenDigits digits
  pub near : IsNear exact digits (up_of exponent) (down_of exponent)
  pub bounded : IsBounded sign digits exponent answer

-- The result for a fraction, in units: zero for zero, otherwise the size is rounded.
abbrev pub Nearest : ℤ → ℕ → Result Ten DecimalFault → Type 0
Nearest above below answer =
    MatchBool (unsigned_abs above == 0)
    (answer ≡ Ok Zero)
    (IsRounded (sign_of above) (Fraction (unsigned_abs above) below) answer)

-- The result for the square root of a number of units: there is none for a negative number.
abbrev pub NearestRoot : ℤ → Result Ten DecimalFault → Type 0
NearestRoot (pos size) answer =
    MatchBool (size == 0) (answer ≡ Ok Zero) (IsRounded Plus (RootOf (size * one)) answer)
NearestRoot (negsuc size) answer = answer ≡ Err Data
