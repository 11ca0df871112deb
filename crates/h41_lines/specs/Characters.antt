-- Digits and characters as they appear in texts. It is this project's choice that characters other
-- than 20 to 7E are shown as \ and two digits.
use Rattle.std.specs.Prelude.{ℕ, ◌+◌, ◌/◌, ◌%◌, Bool, not, ◌&&◌, List, [], ◌∷◌, nat_le, ◌==◌}
use Rattle.std.specs.Prelude.{if◌then◌else◌}
use Rattle.std.specs.List.{flat_map}
use Rattle.h41_digits.specs.Register.{hexadecimal_text}

-- The two decimal digits of a number below 100.
abbrev pub two_digits : ℕ → List ℕ
two_digits number = (48 + number / 10) ∷ (48 + number % 10) ∷ []

-- The characters that are shown as they are: 20 to 7E, except \ (5C).
abbrev pub is_plain : ℕ → Bool
is_plain character = nat_le 0x20 character && nat_le character 0x7E && not (character == 0x5C)

-- A character in escaped form: \ and its two hexadecimal digits.
abbrev pub escape_of : ℕ → List ℕ
escape_of character = 0x5C ∷ hexadecimal_text 2 character

-- A character as the display shows it.
abbrev pub character_text : ℕ → List ℕ
character_text character = if is_plain character then character ∷ [] else escape_of character

-- The characters of a list as the display shows them, in their order.
abbrev pub characters_text : List ℕ → List ℕ
characters_text characters = flat_map character_text characters
