-- The exact values that the operations round.
use Rattle.std.specs.Prelude.{◌≡◌, ℕ, ◌+◌, ◌-◌, ◌*◌, ◌^◌, ◌<◌, ◌≤◌, ◌==◌, MatchBool, Ok, Err}
use Rattle.std.specs.Prelude.{Result, ℤ, pos, negsuc, ◌+ℤ◌, ◌-ℤ◌, ◌*ℤ◌, ◌<ℤ◌, ◌≤ℤ◌, unsigned_abs}
use Rattle.h41_decimal.specs.Signs.{with_sign, sign_of}
use Rattle.h41_decimal.specs.Units.{one, units}
use Rattle.h41_decimal.specs.NearestDecimal.{Nearest}
use Rattle.h41_decimal.specs.declared.fault.DecimalFault.{DecimalFault}
use Rattle.h41_decimal.specs.declared.fault.DecimalFault.TheVariants.{Data}
use Rattle.h41_decimal.specs.declared.places.Places.{Places}
use Rattle.h41_decimal.specs.declared.places.Places.TheVariants.{Decimals, Digits}
use Rattle.h41_decimal.specs.declared.ten.Ten.{Ten}
use Rattle.h41_decimal.specs.declared.ten.Ten.TheVariants.{Zero, Nonzero}

-- The quotient x / y is written x * y / (y * y), so that its divisor is not negative. There is no
-- quotient by zero.
abbrev pub NearestQuotient : ℤ → ℤ → Result Ten DecimalFault → Type 0
NearestQuotient x y answer =
    MatchBool (unsigned_abs y == 0)
    (answer ≡ Err Data)
    (Nearest (x *ℤ y *ℤ pos one) (unsigned_abs y * unsigned_abs y) answer)

-- The greatest whole number that is not above y / x, by cross multiplication, which a negative x
-- reverses.
abbrev pub IsFloor : ℤ → ℤ → ℤ → Type 0
IsFloor whole y (pos x) = ((whole *ℤ pos x) ≤ℤ y) × (y <ℤ ((whole +ℤ pos 1) *ℤ pos x))
IsFloor whole y (negsuc x) = (y ≤ℤ (whole *ℤ negsuc x)) × (((whole +ℤ pos 1) *ℤ negsuc x) <ℤ y)

-- The result of y - x * floor(y / x).
pub record RoundsRest (y x : ℤ) (answer : Result Ten DecimalFault) : Type 0 where
  pub whole : ℤ
  pub floor : IsFloor whole y x
  pub rest : Nearest (y -ℤ x *ℤ whole) 1 answer

-- The result of y modulo x: y if x is zero.
abbrev pub NearestModulo : Ten → Ten → Result Ten DecimalFault → Type 0
NearestModulo y x answer =
    MatchBool (unsigned_abs (units x) == 0) (answer ≡ Ok y) (RoundsRest (units y) (units x) answer)

-- The value of one step of the last place that rounding to decimals or digits keeps, in units, of
-- which there are 10^108 in 1.
abbrev pub step_of : Places → Ten → ℕ
step_of (Decimals count) number = 10 ^ (108 - count)
step_of (Digits count) Zero = 1
step_of (Digits count) (Nonzero sign x) = 10 ^ (x.exponent.biased + (10 - count))

-- The result of rounding a number to a multiple of a step: the nearest one, halves away from zero.
pub record RoundsTo (step : ℕ) (number : ℤ) (answer : Result Ten DecimalFault) : Type 0 where
  pub steps : ℕ
  pub not_above : 2 * (steps * step) ≤ 2 * unsigned_abs number + step
  pub next_above : 2 * unsigned_abs number + step < 2 * ((steps + 1) * step)
  pub value : Nearest (with_sign (sign_of number) (steps * step)) 1 answer
