-- A number's decimal digits in four bits each.
use Rattle.std.specs.Prelude.{ℕ, zero, suc, ◌+◌, ◌*◌, ◌/◌, ◌%◌, Option, Some, None, nat_le}
use Rattle.std.specs.Prelude.{if◌then◌else◌}
use Rattle.std.specs.Option.{option_map}
use Rattle.h41_decimal.specs.Holding.{steps_in}

-- The lowest decimal digits of a number, the lowest in the lowest bits.
abbrev pub word_of_digits : ℕ → ℕ → ℕ
word_of_digits zero number = 0
word_of_digits (suc count) number = number % 10 + 16 * word_of_digits count (number / 10)

-- The number that these decimal digits form, or none if one of them is above 9.
abbrev pub decimal_of : ℕ → ℕ → Option ℕ
decimal_of zero digits = Some 0
decimal_of (suc count) digits =
    if nat_le (digits % 16) 9
    then option_map (λ rest. digits % 16 + 10 * rest) (decimal_of count (digits / 16))
    else None

-- The number in base 100 whose digits are bytes.
abbrev pub hundreds_of : ℕ → ℕ → ℕ
hundreds_of zero bytes = 0
hundreds_of (suc count) bytes = bytes % 256 + 100 * hundreds_of count (bytes / 256)

-- The exponent, plus 99, that three digits encode, if they are decimal digits.
abbrev pub steps_told : Option ℕ → Option ℕ
steps_told (Some exponent) = steps_in exponent
steps_told None = None
