-- How a number is typed: the effect of each key on its characters. The value is that of a number
-- line with these characters. The characters before the E are the mantissa, those after it the
-- exponent; a sign precedes its part.
use Rattle.std.specs.Prelude.{ℕ, ◌-◌, nat_lt, nat_le, Bool, true, false, ◌||◌, List, [], ◌∷◌}
use Rattle.std.specs.Prelude.{◌++◌, length, take, drop, filter, ◌==◌, if◌then◌else◌}
use Rattle.std.specs.List.{list_any}
use Rattle.h41_codes.specs.Counts.{number_most}
use Rattle.h41_codes.specs.NumberCharacters.{exponent_part, exponent_place, is_minus, is_point}
use Rattle.h41_codes.specs.NumberCharacters.{mantissa_part}
use Rattle.h41_codes.specs.declared.characters.Character.{Character}
use Rattle.h41_codes.specs.declared.characters.Character.TheVariants as characters
use Rattle.h41_keys.specs.declared.key.Digit.{Digit}
use Rattle.h41_keys.specs.declared.key.Digit.TheVariants as digits

-- The character of a digit.
abbrev pub character_of : Digit → Character
character_of digits.Zero = characters.Zero
character_of digits.One = characters.One
character_of digits.Two = characters.Two
character_of digits.Three = characters.Three
character_of digits.Four = characters.Four
character_of digits.Five = characters.Five
character_of digits.Six = characters.Six
character_of digits.Seven = characters.Seven
character_of digits.Eight = characters.Eight
character_of digits.Nine = characters.Nine

-- The value of a digit.
abbrev pub value_of : Digit → ℕ
value_of digits.Zero = 0
value_of digits.One = 1
value_of digits.Two = 2
value_of digits.Three = 3
value_of digits.Four = 4
value_of digits.Five = 5
value_of digits.Six = 6
value_of digits.Seven = 7
value_of digits.Eight = 8
value_of digits.Nine = 9

-- Whether a character is a digit.
abbrev pub is_digit : Character → Bool
is_digit characters.Point = false
is_digit characters.Exponent = false
is_digit characters.Minus = false
is_digit other = true

-- Whether the number has an exponent.
abbrev pub has_exponent : List Character → Bool
has_exponent text = nat_lt (exponent_place text) (length text)

-- The number of digits in a text.
abbrev pub count_of_digits : List Character → ℕ
count_of_digits text = length (filter is_digit text)

-- Whether there is room for one more digit: a mantissa has at most ten, including leading zeros and
-- zeros after the point; an exponent has two.
abbrev pub has_room : List Character → Bool
has_room text =
    if has_exponent text then nat_lt (count_of_digits (exponent_part text)) 2
    else nat_lt (count_of_digits text) 10

-- A digit is appended if there is room for it.
abbrev pub with_digit : List Character → Digit → List Character
with_digit text digit = if has_room text then text ++ character_of digit ∷ [] else text

-- A number has one decimal point, in the mantissa.
abbrev pub with_point : List Character → List Character
with_point text =
    if list_any is_point text || has_exponent text then text else text ++ characters.Point ∷ []

-- A number has one E. A mantissa without a digit gets a 1.
abbrev pub with_exponent : List Character → List Character
with_exponent text =
    if has_exponent text then text
    else if count_of_digits text == 0 then text ++ characters.One ∷ characters.Exponent ∷ []
    else text ++ characters.Exponent ∷ []

-- Whether a part begins with its sign.
abbrev pub begins_with_minus : List Character → Bool
begins_with_minus [] = false
begins_with_minus (first ∷ rest) = is_minus first

-- CHS adds the sign of a part, or removes it.
abbrev pub part_turned : List Character → List Character
part_turned part = if begins_with_minus part then drop 1 part else characters.Minus ∷ part

-- CHS changes the sign of the exponent if there is an E, otherwise that of the mantissa.
abbrev pub with_sign_turned : List Character → List Character
with_sign_turned text =
    if has_exponent text
    then mantissa_part text ++ characters.Exponent ∷ part_turned (exponent_part text)
    else part_turned text

-- BACK deletes the last character.
abbrev pub without_last : {A : Type 0} → List A → List A
without_last items = take (length items - 1) items

-- A number line has at most 16 characters: a key that would make it longer changes nothing.
abbrev pub kept_within : List Character → List Character → List Character
kept_within before after = if nat_le (length after) number_most then after else before
