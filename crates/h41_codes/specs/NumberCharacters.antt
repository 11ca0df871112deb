-- The characters of a number that are not digits, and the parts of a number: the mantissa is before
-- the first E, and the exponent after it.
use Rattle.std.specs.Prelude.{ℕ, ◌+◌, Bool, true, false, List, take, drop}
use Rattle.std.specs.List.{position_or_len}
use Rattle.h41_codes.specs.declared.characters.Character.{Character}
use Rattle.h41_codes.specs.declared.characters.Character.TheVariants as characters

-- The radix mark.
abbrev pub is_point : Character → Bool
is_point characters.Point = true
is_point other = false

-- The E before an exponent.
abbrev pub is_exponent : Character → Bool
is_exponent characters.Exponent = true
is_exponent other = false

-- The minus sign.
abbrev pub is_minus : Character → Bool
is_minus characters.Minus = true
is_minus other = false

-- The index of the first E, or the number of characters if there is none.
abbrev pub exponent_place : List Character → ℕ
exponent_place text = position_or_len is_exponent text

-- The characters before the first E, or all characters if there is none.
abbrev pub mantissa_part : List Character → List Character
mantissa_part text = take (exponent_place text) text

-- The characters after the first E, or none.
abbrev pub exponent_part : List Character → List Character
exponent_part text = drop (exponent_place text + 1) text
