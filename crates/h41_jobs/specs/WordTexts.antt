-- Words of the HP-41 as text: the line of a word, and the words in a text. Both forms are this
-- project's own.
use Rattle.std.specs.Prelude.{◌≡◌, ℕ, Bool, ◌==◌, ◌||◌, List, ◌++◌, length, map, filter, flat_map}
use Rattle.std.specs.Prelude.{codes, not, Option, Some, is_none}
use Rattle.std.specs.List.{position_from, slice_split}
use Rattle.h41_digits.specs.Register.{hexadecimal_text}
use Rattle.h41_lines.specs.Numbers.{number_up_to}

-- The line of a word: three hexadecimal digits, in upper case.
abbrev pub word_line : ℕ → List ℕ
word_line word = hexadecimal_text 3 word ++ codes "\n"

-- The lines of words.
abbrev pub word_lines : List ℕ → List ℕ
word_lines words = flat_map word_line words

-- White space: a tab, LF, FF, CR or a space.
abbrev pub is_white_space : ℕ → Bool
is_white_space byte = byte == 9 || (byte == 10 || (byte == 12 || (byte == 13 || byte == 32)))

-- The parts of a text between white space.
abbrev pub parts_of : List ℕ → List (List ℕ)
parts_of text = filter (λ part. not (length part == 0)) (slice_split is_white_space text)

-- The word that a part of a text writes: a hexadecimal number up to 3FF, of either case and with
-- any number of leading zeros.
abbrev pub word_value : List ℕ → Option ℕ
word_value part = number_up_to 0x3FF 16 part

-- The text contains these words: each of its parts writes one.
abbrev pub WritesWords : List ℕ → List ℕ → Type 0
WritesWords text words = map word_value (parts_of text) ≡ map (λ word. Some word) words

-- The number of the first part of a text that writes no word, counted from 1.
abbrev pub wrong_word : List ℕ → Option ℕ
wrong_word text = position_from (λ part. is_none (word_value part)) 1 (parts_of text)
