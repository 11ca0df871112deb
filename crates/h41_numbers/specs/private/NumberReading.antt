-- How the digits of a number line are read character by character: what private functions promise
-- to each other.
use Rattle.std.specs.Prelude.{◌≡◌, ℕ, ◌+◌, ◌-◌, List, ◌∷◌, length, take, if◌then◌else◌}
use Rattle.std.specs.List.{list_any}
use Rattle.h41_codes.specs.declared.characters.Character.{Character}
use Rattle.h41_codes.specs.NumberCharacters.{is_point}
use Rattle.h41_numbers.specs.NumberLines.{biased_by, digits_in, number_from, sign_in, whole_digits}

-- The number of the first digits, after some are already read, with the rest of the text.
abbrev pub read_number : (most number count : ℕ) → List Character → ℕ
read_number most number count text = number_from number (take (most - count) (digits_in text))

-- The count of the first digits, after some are already read, with the rest of the text.
abbrev pub read_count : (most count : ℕ) → List Character → ℕ
read_count most count text = count + length (take (most - count) (digits_in text))

-- The number after a character was read is continued by the rest of the text as the number before
-- it is continued by the character and the rest.
abbrev pub ReadsOn : (most number count : ℕ) → Character → (after counted : ℕ) → Type 0
ReadsOn most number count character after counted =
    (rest : List Character)
    → read_number most after counted rest ≡ read_number most number count (character ∷ rest)

-- The count of digits after a character was read is continued by the rest in the same way.
abbrev pub ReadsCount : (most count : ℕ) → Character → (counted : ℕ) → Type 0
ReadsCount most count character counted =
    (rest : List Character)
    → read_count most counted rest ≡ read_count most count (character ∷ rest)

-- The exponent, plus 99, from the characters after the E.
abbrev pub biased_in : List Character → ℕ
biased_in text = biased_by (sign_in text) (number_from 0 (take 2 (digits_in text)))

-- How many of these digits are after the point.
abbrev pub places_in : List Character → ℕ → ℕ
places_in text count = if list_any is_point text then count - whole_digits text else 0
