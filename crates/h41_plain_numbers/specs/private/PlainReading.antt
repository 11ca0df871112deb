-- How the digits of a number line in memory are read in one pass, if there are only radix marks
-- among them: what private functions promise to each other.
use Rattle.std.specs.Prelude.{◌≡◌, ℕ, ◌+◌, ◌-◌, ◌*◌, ◌<◌, ◌≤◌, true, false, List, [], ◌∷◌}
use Rattle.std.specs.Prelude.{if◌then◌else◌, map, nat_lt}
use Rattle.std.specs.List.{range_with_len}
use Rattle.h41_codes.specs.Heads.{IsIn}
use Rattle.h41_decimal.specs.NumberEntry.{IsTyped}
use Rattle.h41_decimal.specs.declared.parts.Exponent.{Exponent}
use Rattle.h41_decimal.specs.declared.sign.Sign.TheVariants.{Plus}
use Rattle.h41_decimal.specs.declared.ten.Ten.{Ten}
use Rattle.h41_program.specs.ProgramBytes.{program_byte}
use Rattle.h41_ram.specs.RegisterMap.{RegisterMap}
use Rattle.h41_plain_numbers.specs.declared.plain.PlainDigits.{PlainDigits}

-- Nothing is read yet.
abbrev pub no_digits : PlainDigits
no_digits = record { number = 0; count = 0; places = 0; marked = false }

-- The digits after one more digit.
abbrev pub with_digit : PlainDigits → ℕ → PlainDigits
with_digit digits digit = record {
  number = 10 * digits.number + digit;
  count = digits.count + 1;
  places = if digits.marked then digits.places + 1 else digits.places;
  marked = digits.marked;
}

-- The digits after one more code: 10 to 19 is a digit, 1A the radix mark.
abbrev pub with_code : PlainDigits → ℕ → PlainDigits
with_code digits code =
    if nat_lt code 0x1A then with_digit digits (code - 0x10) else record digits { marked = true }

-- The digits after more codes.
abbrev pub with_codes : PlainDigits → List ℕ → PlainDigits
with_codes digits [] = digits
with_codes digits (code ∷ codes) = with_codes (with_code digits code) codes

-- A number of bytes of memory, from a position on.
abbrev pub bytes_from : RegisterMap → ℕ → ℕ → List ℕ
bytes_from memory at count = map (program_byte memory) (range_with_len at count)

-- The bytes from one position to another are digits and radix marks, and form these digits; the
-- byte after them is before the last ones, and does not continue a number.
pub record EndsPlain (memory : RegisterMap) (at last : ℕ) (digits : PlainDigits) (behind byte : ℕ)
    : Type 0 where
  pub some : at < behind
  pub most : behind ≤ at + 16
  pub inside : behind < last
  pub each : (k : ℕ) → at ≤ k → k < behind → IsIn 0x10 0x1B (program_byte memory k)
  pub reads : digits ≡ with_codes no_digits (bytes_from memory at (behind - at))
  pub some_digit : 1 ≤ digits.count
  pub few : digits.count ≤ 10
  pub places : digits.places ≤ digits.count
  pub own : byte ≡ program_byte memory behind
  pub other : IsIn 0x10 0x1D byte → ⊥

-- There are no such bytes.
abbrev pub EndsNowhere : RegisterMap → (at last : ℕ) → Type 0
EndsNowhere memory at last =
    (digits : PlainDigits) (behind byte : ℕ) → EndsPlain memory at last digits behind byte → ⊥

-- The number of these digits, this number of which are after the radix mark.
abbrev pub IsTypedPlain : (digits places : ℕ) → Ten → Type 0
IsTypedPlain digits places number =
    (exponent : Exponent) × (exponent.biased ≡ 99) × IsTyped Plus digits places exponent number
