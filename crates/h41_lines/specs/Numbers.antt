-- The numbers that words contain. A word that is not a number has none.
use Rattle.std.specs.Prelude.{ℕ, Bool, ◌&&◌, List, length, nat_lt, nat_le, if◌then◌else◌, Option}
use Rattle.std.specs.Prelude.{Some, None}
use Rattle.std.specs.List.{list_all}
use Rattle.std.specs.Char.{is_digit}
use Rattle.std.specs.Str.Parse.{digits_value}

-- One or more digits in the radix, of either case, and nothing else.
abbrev pub is_numeral : ℕ → List ℕ → Bool
is_numeral radix word = nat_lt 0 (length word) && list_all (λ digit. is_digit digit radix) word

-- A number in the radix, with any count of digits, that is at most the given one.
abbrev pub number_up_to : ℕ → ℕ → List ℕ → Option ℕ
number_up_to most radix word =
    if is_numeral radix word && nat_le (digits_value radix word) most
    then Some (digits_value radix word)
    else None

-- A decimal number from 1 to the given one.
abbrev pub is_count : ℕ → List ℕ → Bool
is_count most word =
    is_numeral 10 word && (nat_lt 0 (digits_value 10 word) && nat_le (digits_value 10 word) most)

-- The number of such a word, or none for any other word.
abbrev pub count_up_to : ℕ → List ℕ → Option ℕ
count_up_to most word = if is_count most word then Some (digits_value 10 word) else None

-- A hexadecimal number with at least and at most the given counts of digits.
abbrev pub is_hexadecimal : ℕ → ℕ → List ℕ → Bool
is_hexadecimal least most word =
    is_numeral 16 word && (nat_le least (length word) && nat_le (length word) most)

-- The number of such a word, or none for any other word.
abbrev pub hexadecimal : ℕ → ℕ → List ℕ → Option ℕ
hexadecimal least most word =
    if is_hexadecimal least most word then Some (digits_value 16 word) else None
