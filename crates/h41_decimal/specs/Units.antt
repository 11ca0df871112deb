-- The value of a decimal as a whole number, counted in units of 10^-108. One unit is the value of a
-- 1 in the tenth digit of the smallest decimals, those with exponent -99, so every decimal is a
-- whole number of units.
use Rattle.std.specs.Prelude.{ℕ, ◌*◌, ◌^◌, ℤ, pos}
use Rattle.h41_decimal.specs.Signs.{with_sign}
use Rattle.h41_decimal.specs.declared.parts.Magnitude.{Magnitude}
use Rattle.h41_decimal.specs.declared.ten.Ten.{Ten}
use Rattle.h41_decimal.specs.declared.ten.Ten.TheVariants.{Zero, Nonzero}

-- The number of units in 1.
abbrev pub one : ℕ
one = 10 ^ 108

-- The value of ten digits in units, at an exponent plus 99: times ten for each step.
abbrev pub size_of : ℕ → ℕ → ℕ
size_of digits steps = digits * 10 ^ steps

-- The value of a size in units.
abbrev pub size : Magnitude → ℕ
size x = size_of x.mantissa.digits x.exponent.biased

-- The value of a decimal in units.
abbrev pub units : Ten → ℤ
units Zero = pos 0
units (Nonzero sign x) = with_sign sign (size x)
