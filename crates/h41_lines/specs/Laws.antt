-- Consequences of the definitions alone.
use Rattle.std.specs.Prelude.{◌≡◌, ℕ, ◌<◌, ◌^◌, Some}
use Rattle.h41_digits.specs.Register.{hexadecimal_text}
use Rattle.h41_lines.specs.Numbers.{hexadecimal}

-- The hexadecimal digits of a number that fits into them are read as that number.
abbrev pub HexadecimalRoundTrip : Type 0
HexadecimalRoundTrip =
    (count number : ℕ) → 0 < count → number < 16 ^ count
    → hexadecimal count count (hexadecimal_text count number) ≡ Some number
