-- Consequences of the definitions alone.
use Rattle.std.specs.Prelude.{◌≡◌, ℕ, List, Ok, Result, ℤ}
use Rattle.h41_digits.specs.Register.{IsRegister}
use Rattle.h41_decimal.specs.Holding.{Number, holding_of}
use Rattle.h41_decimal.specs.Units.{units}
use Rattle.h41_decimal.specs.NearestDecimal.{Nearest, NearestRoot}
use Rattle.h41_decimal.specs.NumberEntry.{IsTyped}
use Rattle.h41_decimal.specs.Operations.{NearestModulo, NearestQuotient, RoundsTo}
use Rattle.h41_decimal.specs.WholeParts.{HasOnes, IsIntegerPart, IsFraction}
use Rattle.h41_decimal.specs.declared.fault.DecimalFault.{DecimalFault}
use Rattle.h41_decimal.specs.declared.parts.Exponent.{Exponent}
use Rattle.h41_decimal.specs.declared.sign.Sign.{Sign}
use Rattle.h41_decimal.specs.declared.ten.Ten.{Ten}

-- Two decimals with the same value are equal.
abbrev pub UnitsAreInjective : Type 0
UnitsAreInjective = (x y : Ten) → units x ≡ units y → x ≡ y

-- The nearest decimal of a fraction is determined.
abbrev pub NearestIsDetermined : Type 0
NearestIsDetermined =
    (above : ℤ) (below : ℕ) (x y : Result Ten DecimalFault) → Nearest above below x
    → Nearest above below y → x ≡ y

-- The nearest decimal of a square root is determined.
abbrev pub NearestRootIsDetermined : Type 0
NearestRootIsDetermined =
    (number : ℤ) (x y : Result Ten DecimalFault) → NearestRoot number x → NearestRoot number y
    → x ≡ y

-- The result of a division is determined.
abbrev pub QuotientIsDetermined : Type 0
QuotientIsDetermined =
    (x y : ℤ) (a b : Result Ten DecimalFault) → NearestQuotient x y a → NearestQuotient x y b
    → a ≡ b

-- The result of a remainder is determined.
abbrev pub ModuloIsDetermined : Type 0
ModuloIsDetermined =
    (y x : Ten) (a b : Result Ten DecimalFault) → NearestModulo y x a → NearestModulo y x b → a ≡ b

-- The result of rounding a number to steps is determined.
abbrev pub StepsAreDetermined : Type 0
StepsAreDetermined =
    (step : ℕ) (number : ℤ) (a b : Result Ten DecimalFault) → RoundsTo step number a
    → RoundsTo step number b → a ≡ b

-- A number has only one register.
abbrev pub RegisterIsDetermined : Type 0
RegisterIsDetermined =
    (number : ℤ) (a b : List ℕ) → IsRegister 14 a → IsRegister 14 b → holding_of a ≡ Number number
    → holding_of b ≡ Number number → a ≡ b

-- A value that is already a decimal is its own nearest decimal.
abbrev pub DecimalIsItsNearest : Type 0
DecimalIsItsNearest = (number : Ten) → Nearest (units number) 1 (Ok number)

-- The number of whole ones of a size is determined.
abbrev pub OnesAreDetermined : Type 0
OnesAreDetermined = (size x y : ℕ) → HasOnes size x → HasOnes size y → x ≡ y

-- The integer part of a number is determined.
abbrev pub IntegerPartIsDetermined : Type 0
IntegerPartIsDetermined = (number x y : ℤ) → IsIntegerPart number x → IsIntegerPart number y → x ≡ y

-- The fraction of a number is determined.
abbrev pub FractionIsDetermined : Type 0
FractionIsDetermined = (number x y : ℤ) → IsFraction number x → IsFraction number y → x ≡ y

-- The typed number is determined.
abbrev pub TypedIsDetermined : Type 0
TypedIsDetermined =
    (sign : Sign) (digits places : ℕ) (exponent : Exponent) (x y : Ten)
    → IsTyped sign digits places exponent x
    → IsTyped sign digits places exponent y → x ≡ y
