-- The numbers in the words of a deck, or BadNumber (51). Their form is this project's own.
use Rattle.std.specs.Prelude.{ℕ, ◌&&◌, List, nat_le, if◌then◌else◌, Result, Ok, Err}
use Rattle.std.specs.Str.Parse.{digits_value}
use Rattle.h41_lines.specs.Numbers.{is_count, is_hexadecimal, is_numeral}
use Rattle.h41_commands.specs.declared.refusal.LineRefusal.{LineRefusal}
use Rattle.h41_commands.specs.declared.refusal.LineRefusal.TheVariants.{BadNumber}

-- A hexadecimal number with a number of digits in a range, of either case.
abbrev pub hexadecimal_within : ℕ → ℕ → List ℕ → Result ℕ LineRefusal
hexadecimal_within least most word =
    if is_hexadecimal least most word then Ok (digits_value 16 word) else Err BadNumber

-- A hexadecimal number with exactly so many digits.
abbrev pub hexadecimal : ℕ → List ℕ → Result ℕ LineRefusal
hexadecimal count word = hexadecimal_within count count word

-- A number with any number of digits in a radix, up to a greatest one.
abbrev pub number_up_to : ℕ → ℕ → List ℕ → Result ℕ LineRefusal
number_up_to most radix word =
    if is_numeral radix word && nat_le (digits_value radix word) most
    then Ok (digits_value radix word)
    else Err BadNumber

-- A decimal number from 1 to a greatest one.
abbrev pub count_up_to : ℕ → List ℕ → Result ℕ LineRefusal
count_up_to most word = if is_count most word then Ok (digits_value 10 word) else Err BadNumber
