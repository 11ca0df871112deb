-- Nearest decimals exist, and the other questions about decimals have answers.
use Rattle.std.specs.Prelude.{◌≡◌, ℕ, ◌<◌, List, Some, ℤ}
use Rattle.h41_digits.specs.Register.{IsRegister}
use Rattle.h41_decimal.specs.Holding.{Number, holding_of, number_in}
use Rattle.h41_decimal.specs.Units.{units}
use Rattle.h41_decimal.specs.NearestDecimal.{Nearest, NearestRoot}
use Rattle.h41_decimal.specs.NumberEntry.{IsTyped}
use Rattle.h41_decimal.specs.Operations.{NearestModulo, NearestQuotient, RoundsTo}
use Rattle.h41_decimal.specs.WholeParts.{IsIntegerPart, IsFraction}
use Rattle.h41_decimal.specs.declared.parts.Exponent.{Exponent}
use Rattle.h41_decimal.specs.declared.sign.Sign.{Sign}
use Rattle.h41_decimal.specs.declared.ten.Ten.{Ten}
use Rattle.h41_laws_words.specs.HasOne.{HasOne}

-- A fraction has exactly one nearest decimal, whatever its size. Sums, differences and products are
-- such fractions.
abbrev pub FractionHasOneNearest : Type 0
FractionHasOneNearest = (above : ℤ) (below : ℕ) → 0 < below → HasOne (Nearest above below)

-- A square root has exactly one nearest decimal.
abbrev pub RootHasOneNearest : Type 0
RootHasOneNearest = (number : ℤ) → HasOne (NearestRoot number)

-- A quotient has exactly one answer, even if the divisor is zero.
abbrev pub QuotientHasOneNearest : Type 0
QuotientHasOneNearest = (x y : ℤ) → HasOne (NearestQuotient x y)

-- The remainder of a division has exactly one answer.
abbrev pub ModuloHasOneNearest : Type 0
ModuloHasOneNearest = (y x : Ten) → HasOne (NearestModulo y x)

-- A number is rounded to steps in exactly one way.
abbrev pub NumberHasOneOfSteps : Type 0
NumberHasOneOfSteps = (step : ℕ) (number : ℤ) → 0 < step → HasOne (RoundsTo step number)

-- A number has exactly one integer part.
abbrev pub NumberHasOneInteger : Type 0
NumberHasOneInteger = (number : ℤ) → HasOne (IsIntegerPart number)

-- A number has exactly one fraction.
abbrev pub NumberHasOneFraction : Type 0
NumberHasOneFraction = (number : ℤ) → HasOne (IsFraction number)

-- Digits with an exponent are exactly one number.
abbrev pub TypedHasOneNumber : Type 0
TypedHasOneNumber =
    (sign : Sign) (digits places : ℕ) (exponent : Exponent)
    → HasOne (IsTyped sign digits places exponent)

-- The register contains a number.
pub record HoldsNumber (number : ℤ) (register : List ℕ) : Type 0 where
  pub valid : IsRegister 14 register
  pub holds : holding_of register ≡ Number number

-- A decimal has exactly one register.
abbrev pub DecimalHasOneRegister : Type 0
DecimalHasOneRegister = (number : Ten) → HasOne (HoldsNumber (units number))

-- The value of a register that contains a number is that of exactly one decimal.
abbrev pub RegisterHoldsDecimal : Type 0
RegisterHoldsDecimal =
    (register : List ℕ) (number : ℤ) → number_in register ≡ Some number
    → HasOne (λ (decimal : Ten). units decimal ≡ number)
