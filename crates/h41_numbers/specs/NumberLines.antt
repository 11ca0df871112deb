-- The value of the characters of a number line. The rules are those of number entry in the Owner's
-- Handbook; their extension to characters that number entry does not allow is this project's
-- choice. The characters up to the first E are the mantissa, those after it the exponent.
use Rattle.std.specs.Prelude.{◌≡◌, ℕ, ◌+◌, ◌-◌, ◌*◌, ◌%◌, not, ◌&&◌, List, [], ◌∷◌, length, take}
use Rattle.std.specs.Prelude.{drop, filter, ◌==◌, if◌then◌else◌, Option, Some, None}
use Rattle.std.specs.List.{list_any, take_while}
use Rattle.std.specs.Option.{option_map_or}
use Rattle.h41_codes.specs.NumberCharacters.{exponent_part, is_exponent, is_minus, is_point}
use Rattle.h41_codes.specs.NumberCharacters.{mantissa_part}
use Rattle.h41_codes.specs.declared.characters.Character.{Character}
use Rattle.h41_codes.specs.declared.characters.Character.TheVariants as characters
use Rattle.h41_decimal.specs.NumberEntry.{IsTyped}
use Rattle.h41_decimal.specs.declared.parts.Exponent.{Exponent}
use Rattle.h41_decimal.specs.declared.sign.Sign.{Sign}
use Rattle.h41_decimal.specs.declared.sign.Sign.TheVariants.{Plus, Minus}
use Rattle.h41_decimal.specs.declared.ten.Ten.{Ten}

-- The value of a digit.
abbrev pub digit_of : Character → Option ℕ
digit_of characters.Zero = Some 0
digit_of characters.One = Some 1
digit_of characters.Two = Some 2
digit_of characters.Three = Some 3
digit_of characters.Four = Some 4
digit_of characters.Five = Some 5
digit_of characters.Six = Some 6
digit_of characters.Seven = Some 7
digit_of characters.Eight = Some 8
digit_of characters.Nine = Some 9
digit_of other = None

-- The digits of a text in their order.
abbrev pub digits_in : List Character → List ℕ
digits_in [] = []
digits_in (character ∷ text) =
    option_map_or (λ digit. digit ∷ digits_in text) (digit_of character) (digits_in text)

-- The number of digits before the point.
abbrev pub whole_digits : List Character → ℕ
whole_digits text = length (digits_in (take_while (λ character. not (is_point character)) text))

-- The digits as one whole number, after those of an earlier one.
abbrev pub number_from : ℕ → List ℕ → ℕ
number_from front [] = front
number_from front (digit ∷ digits) = number_from (10 * front + digit) digits

-- The digits that are used: the first ten. An E with no digit before it gives a 1.
abbrev pub mantissa_digits : List Character → List ℕ
mantissa_digits text =
    if length (digits_in (mantissa_part text)) == 0 && list_any is_exponent text then 1 ∷ []
    else take 10 (digits_in (mantissa_part text))

-- How many of these digits are after the point.
abbrev pub decimal_places : List Character → ℕ
decimal_places text =
    if list_any is_point (mantissa_part text)
    then length (drop (whole_digits (mantissa_part text)) (mantissa_digits text))
    else 0

-- The sign: plus if there is an even number of signs, otherwise minus.
abbrev pub sign_in : List Character → Sign
sign_in text = if length (filter is_minus text) % 2 == 0 then Plus else Minus

-- The size of the exponent, from its first two digits.
abbrev pub exponent_size : List Character → ℕ
exponent_size text = number_from 0 (take 2 (digits_in (exponent_part text)))

-- An exponent of this size, plus 99.
abbrev pub biased_by : Sign → ℕ → ℕ
biased_by Plus size = 99 + size
biased_by Minus size = 99 - size

-- The number of a number line.
pub record IsNumberOf (text : List Character) (number : Ten) : Type 0 where
  pub exponent : Exponent
  pub biased : exponent.biased ≡ biased_by (sign_in (exponent_part text)) (exponent_size text)
  pub typed : IsTyped (sign_in (mantissa_part text))
      (number_from 0 (mantissa_digits text)) (decimal_places text) exponent number
