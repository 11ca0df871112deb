-- The operands of a source: which words are an operand, and its value. Hexadecimal digits may be of
-- either case; decimal numbers have no leading zeros. The language is this project's own.
use Rattle.std.specs.Prelude.{ℕ, ◌-◌, ℤ, pos, negsuc, Bool, ◌&&◌, List, [], ◌∷◌, length, take, drop}
use Rattle.std.specs.Prelude.{nat_lt, nat_le, ◌==◌, not, if◌then◌else◌, Option, Some, None}
use Rattle.std.specs.Prelude.{bytes_eq, slice_index}
use Rattle.std.specs.Fmt.{decimal}
use Rattle.std.specs.List.{find, list_all, range_with_len}
use Rattle.h41_fields.specs.declared.field.Field.{Field}
use Rattle.h41_lines.specs.Numbers.{hexadecimal}
use Rattle.h41_words.specs.Counts.{word_count}
use Rattle.h41_words.specs.Mnemonics.{field_text}
use Rattle.h41_words.specs.Listing.{fields}

-- A number of exactly this many hexadecimal digits.
abbrev pub hexadecimal_in : ℕ → List ℕ → Option ℕ
hexadecimal_in count word = hexadecimal count count word

-- An address: four digits.
abbrev pub address_in : List ℕ → Option ℕ
address_in word = hexadecimal_in 4 word

-- A number that is a word of a ROM: it has ten bits, up to 3FF.
abbrev pub rom_word : Option ℕ → Option ℕ
rom_word None = None
rom_word (Some number) = if nat_lt number word_count then Some number else None

-- A word of a ROM: three digits, up to 3FF.
abbrev pub word_in : List ℕ → Option ℕ
word_in word = rom_word (hexadecimal_in 3 word)

-- A displacement forward, from the number of its two digits.
abbrev pub forward_by : Option ℕ → Option ℤ
forward_by None = None
forward_by (Some size) = Some (pos size)

-- A displacement backward, from the number of its two digits; it is not zero.
abbrev pub backward_by : Option ℕ → Option ℤ
backward_by None = None
backward_by (Some size) = if size == 0 then None else Some (negsuc (size - 1))

-- A displacement: '+' or '-' and two digits. Zero is '+00' alone.
abbrev pub displacement_in : List ℕ → Option ℤ
displacement_in [] = None
displacement_in (sign ∷ digits) =
    if sign == 43 then forward_by (hexadecimal_in 2 digits)
    else (if sign == 45 then backward_by (hexadecimal_in 2 digits) else None)

-- A decimal number: one of this many numbers from the least on.
abbrev pub number_in : ℕ → ℕ → List ℕ → Option ℕ
number_in least count word =
    find (λ number. bytes_eq word (decimal number)) (range_with_len least count)

-- A field, by its name.
abbrev pub field_in : List ℕ → Option Field
field_in word = find (λ field. bytes_eq word (field_text field)) fields

-- A byte that a text can contain: 20 to 5F except '"'.
abbrev pub is_text_byte : ℕ → Bool
is_text_byte byte = nat_le 0x20 byte && (nat_le byte 0x5F && not (byte == 34))

-- A text: one to eleven of these bytes.
abbrev pub is_text : List ℕ → Bool
is_text text = nat_lt 0 (length text) && (nat_le (length text) 11 && list_all is_text_byte text)

-- The text of a word: it is between two '"'.
abbrev pub text_in : List ℕ → Option (List ℕ)
text_in word =
    let text = take (length word - 2) (drop 1 word) in
    if slice_index word 0 == 34 && slice_index word (length word - 1) == 34 && is_text text
    then Some text
    else None
