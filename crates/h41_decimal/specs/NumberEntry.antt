-- A number from its digits, as it is typed or as a number line contains it. This follows the
-- Owner's Handbook, except the bounds, which are this project's choice.
use Rattle.std.specs.Prelude.{◌≡◌, ℕ, ◌*◌, ◌^◌, Ok, Err, Result, ℤ}
use Rattle.h41_decimal.specs.Signs.{with_sign}
use Rattle.h41_decimal.specs.Units.{one, size_of, units}
use Rattle.h41_decimal.specs.NearestDecimal.{Nearest}
use Rattle.h41_decimal.specs.declared.fault.DecimalFault.{DecimalFault}
use Rattle.h41_decimal.specs.declared.parts.Exponent.{Exponent}
use Rattle.h41_decimal.specs.declared.sign.Sign.{Sign}
use Rattle.h41_decimal.specs.declared.ten.Ten.{Ten}

-- The size of the greatest number, 9.999999999E99.
abbrev pub size_of_greatest : ℕ
size_of_greatest = size_of 9999999999 198

-- The value of a result. If the result is out of range, it is the greatest number with the sign.
abbrev pub within_bounds : Sign → Result Ten DecimalFault → ℤ
within_bounds sign (Ok number) = units number
within_bounds sign (Err fault) = with_sign sign size_of_greatest

-- The typed number: its digits as one whole number, times ten to the exponent, which is given plus
-- 99, divided by ten for each digit after the point, with its sign. If the exponent of this value
-- is above 99, the number is the greatest one; if below -99, zero.
pub record IsTyped (sign : Sign) (digits places : ℕ)
    (exponent : Exponent) (number : Ten) : Type 0 where
  pub answer : Result Ten DecimalFault
  pub nearest : Nearest (with_sign sign (digits * one * 10 ^ exponent.biased))
      (10 ^ places * 10 ^ 99) answer
  pub value : units number ≡ within_bounds sign answer
