-- A register: a list of hexadecimal digits. The digit of place 0, the rightmost, is the first
-- element. The registers of the Nut processor have 14 digits.
use Rattle.std.specs.Prelude.{◌≡◌, ℕ, zero, suc, ◌+◌, ◌-◌, ◌*◌, ◌/◌, ◌%◌, ◌^◌, ◌<◌, List, [], ◌∷◌}
use Rattle.std.specs.Prelude.{◌++◌, take, drop, map, reverse, length, slice_index, slice_set, All}
use Rattle.std.specs.Prelude.{true, nat_lt, if◌then◌else◌}
use Rattle.std.specs.Fmt.{digit_glyph}

-- A register with this many places has one digit, 0 to 15, for each place.
pub record IsRegister (places : ℕ) (digits : List ℕ) : Type 0 where
  pub size : length digits ≡ places
  pub each : All (λ digit. digit < 16) digits

-- The sum of each digit times 16 to the power of its place. The first digit of the list has the
-- given place.
abbrev pub value_from : ℕ → List ℕ → ℕ
value_from place [] = 0
value_from place (digit ∷ digits) = digit * 16 ^ place + value_from (place + 1) digits

-- The number that a register holds: the sum of each digit times 16 to the power of its place.
abbrev pub value : List ℕ → ℕ
value digits = value_from 0 digits

-- The number that the digits from place lo to place hi form. The digit at lo is the least
-- significant one.
abbrev pub value_between : List ℕ → ℕ → ℕ → ℕ
value_between digits lo hi = value (take (hi + 1 - lo) (drop lo digits))

-- The text of a register: one hexadecimal digit in upper case for each place, the highest place
-- first.
abbrev pub text : List ℕ → List ℕ
text digits = map (digit_glyph true) (reverse digits)

-- The text of a number: its lowest hexadecimal digits, as many as asked for, in upper case, the
-- lowest last.
abbrev pub hexadecimal_text : ℕ → ℕ → List ℕ
hexadecimal_text zero number = []
hexadecimal_text (suc count) number =
    hexadecimal_text count (number / 16) ++ digit_glyph true (number % 16) ∷ []

-- Byte k of a register: the digit of place 2k + 1 is its higher half, the digit of place 2k its
-- lower half.
abbrev pub byte_at : List ℕ → ℕ → ℕ
byte_at digits k = slice_index digits (2 * k + 1) * 16 + slice_index digits (2 * k)

-- The byte at a place, 0 to 13, of two adjacent registers. The leftmost byte, at place 0, is the
-- highest byte of the first register.
abbrev pub byte_of_two : List ℕ → List ℕ → ℕ → ℕ
byte_of_two here below place =
    if nat_lt place 7 then byte_at here (6 - place) else byte_at below (13 - place)

-- Byte k of a number. Byte 0 is the lowest.
abbrev pub number_byte : ℕ → ℕ → ℕ
number_byte number k = number / 256 ^ k % 256

-- The register after byte k is replaced: only its places 2k and 2k + 1 change.
abbrev pub set_byte : List ℕ → ℕ → ℕ → List ℕ
set_byte digits k byte = slice_set (slice_set digits (2 * k) (byte % 16)) (2 * k + 1) (byte / 16)
