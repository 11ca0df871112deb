-- What is true of the numbers of number lines, whatever the code does.
use Rattle.std.specs.Prelude.{◌≡◌, ℕ, ◌-◌, ◌≤◌, IsTrue, Bool, not, ◌||◌, List, length}
use Rattle.std.specs.Prelude.{if◌then◌else◌}
use Rattle.std.specs.List.{list_all, list_any}
use Rattle.h41_codes.specs.NumberCharacters.{is_exponent, is_minus, is_point}
use Rattle.h41_codes.specs.declared.characters.Character.{Character}
use Rattle.h41_decimal.specs.NumberEntry.{IsTyped}
use Rattle.h41_decimal.specs.declared.parts.Exponent.{Exponent}
use Rattle.h41_decimal.specs.declared.sign.Sign.TheVariants.{Plus}
use Rattle.h41_decimal.specs.declared.ten.Ten.{Ten}
use Rattle.h41_numbers.specs.NumberLines.{IsNumberOf, digits_in, number_from, whole_digits}

-- A number line has only one number.
abbrev pub NumbersAreDetermined : Type 0
NumbersAreDetermined =
    (text : List Character) (number other : Ten)
    → IsNumberOf text number → IsNumberOf text other → number ≡ other

-- Whether a character is a digit or a radix mark.
abbrev pub is_plain : Character → Bool
is_plain character = not (is_exponent character || is_minus character)

-- The number of digits of a text after its first radix mark.
abbrev pub digits_behind_mark : List Character → ℕ
digits_behind_mark text =
    if list_any is_point text then length (digits_in text) - whole_digits text else 0

-- A text of radix marks and at most ten digits alone: all digits are used, those after the first
-- radix mark are decimals, the sign is plus and the exponent 0.
abbrev pub PlainTextsAreTyped : Type 0
PlainTextsAreTyped =
    (text : List Character) (exponent : Exponent) (number : Ten)
    → IsTrue (list_all is_plain text)
    → length (digits_in text) ≤ 10
    → exponent.biased ≡ 99
    → IsTyped Plus (number_from 0 (digits_in text)) (digits_behind_mark text) exponent number
    → IsNumberOf text number
