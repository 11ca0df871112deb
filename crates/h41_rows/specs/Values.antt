-- The values that lines compute. Each is the exact result for the numbers in its places, rounded to
-- ten digits.
use Rattle.std.specs.Prelude.{◌≡◌, ℕ, ◌+◌, ◌*◌, Bool, List, Result, Ok, Err, IsOkAnd, MatchBool, ℤ}
use Rattle.std.specs.Prelude.{pos, neg_ℤ, ◌+ℤ◌, ◌-ℤ◌, ◌*ℤ◌, unsigned_abs}
use Rattle.std.specs.Option.{option_map_or}
use Rattle.h41_codes.specs.declared.characters.Character.{Character}
use Rattle.h41_decimal.specs.Holding.{Number, holding_of, worth}
use Rattle.h41_decimal.specs.NearestDecimal.{Nearest, NearestRoot}
use Rattle.h41_decimal.specs.NumberEntry.{size_of_greatest}
use Rattle.h41_decimal.specs.Operations.{NearestModulo, NearestQuotient, RoundsTo, step_of}
use Rattle.h41_decimal.specs.Signs.{sign_of, with_sign}
use Rattle.h41_decimal.specs.Units.{one, units}
use Rattle.h41_decimal.specs.WholeParts.{IsFraction, IsIntegerPart}
use Rattle.h41_decimal.specs.declared.fault.DecimalFault.{DecimalFault}
use Rattle.h41_decimal.specs.declared.fault.DecimalFault.TheVariants.{Data, Range}
use Rattle.h41_decimal.specs.declared.places.Places.{Places}
use Rattle.h41_decimal.specs.declared.places.Places.TheVariants.{Decimals, Digits}
use Rattle.h41_decimal.specs.declared.sign.Sign.{Sign}
use Rattle.h41_decimal.specs.declared.sign.Sign.TheVariants.{Plus}
use Rattle.h41_decimal.specs.declared.ten.Ten.{Ten}
use Rattle.h41_digits.specs.Register.{IsRegister}
use Rattle.h41_ram.specs.NamedFlags.{range_ignore}
use Rattle.h41_ram.specs.RegisterMap.{RegisterMap, flag_of}
use Rattle.h41_show.specs.DisplayFormat.{format_of}
use Rattle.h41_show.specs.declared.format.Format.{Format}
use Rattle.h41_show.specs.declared.format.Notation.{Notation}
use Rattle.h41_show.specs.declared.format.Notation.TheVariants.{Fixed, Scientific, Engineering}
use Rattle.h41_numbers.specs.NumberLines.{IsNumberOf}
use Rattle.h41_rows.specs.Counters.{Way, Up, Down, number_after}
use Rattle.h41_rows.specs.Places.{RowPlace, amount_in, register_in}
use Rattle.h41_rows.specs.declared.fault.LineFault.{LineFault}
use Rattle.h41_rows.specs.declared.fault.LineFault.TheVariants.{DataError, OutOfRange}
use Rattle.h41_rows.specs.declared.values.ValueOfOne.{ValueOfOne}
use Rattle.h41_rows.specs.declared.values.ValueOfOne.TheVariants as ones
use Rattle.h41_rows.specs.declared.values.ValueOfTwo.{ValueOfTwo}
use Rattle.h41_rows.specs.declared.values.ValueOfTwo.TheVariants as twos

-- A value, by the places of its numbers.
pub data Value : Type 0 where
  -- a constant, in units
  Given : ℤ → Value
  -- the number of a number line
  Written : List Character → Value
  -- a value of the number in a place
  OfOne : ValueOfOne → RowPlace → Value
  -- a value of the numbers in two places
  OfTwo : ValueOfTwo → RowPlace → RowPlace → Value

-- The counter of a loop, counted.
abbrev pub counted : Way → ValueOfOne
counted Up = ones.CountedUp
counted Down = ones.CountedDown

-- The decimals or digits to which the display format rounds. SCI and ENG have one digit before the
-- radix mark, so that there is one more digit than decimals.
abbrev pub places_of_notation : Notation → ℕ → Places
places_of_notation Fixed digits = Decimals digits
places_of_notation Scientific digits = Digits (digits + 1)
places_of_notation Engineering digits = Digits (digits + 1)

-- The decimals or digits to which a format rounds.
abbrev pub places_of : Format → Places
places_of format = places_of_notation format.notation format.digits

-- 1 with the sign of a number.
abbrev pub unit_of : ℤ → ℤ
unit_of number = with_sign (sign_of number) one

-- The result for a value is its nearest decimal, or an error. A zero divisor and the root of a
-- negative number are DATA ERROR, as `NearestQuotient` and `NearestRoot` define.

-- The result for a value of one number. Only the displayed value is rounded to these places.
abbrev pub IsOfOne : ValueOfOne → Places → ℤ → Result Ten DecimalFault → Type 0
IsOfOne ones.Root places number answer = NearestRoot number answer
IsOfOne ones.Inverse places number answer = NearestQuotient (pos one) number answer
IsOfOne ones.Negative places number answer = Nearest (neg_ℤ number) 1 answer
IsOfOne ones.AbsoluteValue places number answer = Nearest (pos (unsigned_abs number)) 1 answer
IsOfOne ones.IntegerPart places number answer =
    (part : ℤ) × IsIntegerPart number part × Nearest part 1 answer
IsOfOne ones.Fraction places number answer =
    (rest : ℤ) × IsFraction number rest × Nearest rest 1 answer
IsOfOne ones.Displayed places number answer =
    (decimal : Ten)
    × (units decimal ≡ number)
    × RoundsTo (step_of places decimal) (units decimal) answer
IsOfOne ones.Unit places number answer = Nearest (unit_of number) 1 answer
IsOfOne ones.CountedUp places number answer = Nearest (number_after Up number) 1 answer
IsOfOne ones.CountedDown places number answer = Nearest (number_after Down number) 1 answer

-- The result for a value of two numbers.
abbrev pub IsOfTwo : ValueOfTwo → (first second : ℤ) → Result Ten DecimalFault → Type 0
IsOfTwo twos.Sum y x answer = Nearest (y +ℤ x) 1 answer
IsOfTwo twos.Difference y x answer = Nearest (y -ℤ x) 1 answer
IsOfTwo twos.Product y x answer = Nearest (y *ℤ x) one answer
IsOfTwo twos.Quotient y x answer = NearestQuotient y x answer
IsOfTwo twos.Remainder y x answer =
    (first : Ten) × (second : Ten) × (units first ≡ y) × (units second ≡ x)
    × NearestModulo first second answer
IsOfTwo twos.Percentage y x answer = Nearest (y *ℤ x) (100 * one) answer

-- The result for a value in memory.
abbrev pub IsValue : Value → RegisterMap → ℕ → Result Ten DecimalFault → Type 0
IsValue (Given number) memory named answer = Nearest number 1 answer
IsValue (Written characters) memory named answer = IsOkAnd answer (IsNumberOf characters)
-- the unit of a register that contains no number is 0 (this project's choice if it contains no
-- ALPHA data either)
IsValue (OfOne ones.Unit a) memory named answer =
    Nearest (option_map_or unit_of (worth (holding_of (register_in memory named a))) (pos 0))
    1 answer
IsValue (OfOne value a) memory named answer =
    IsOfOne value (places_of (format_of memory)) (amount_in memory named a) answer
IsValue (OfTwo value a b) memory named answer =
    IsOfTwo value (amount_in memory named a) (amount_in memory named b) answer

-- The sign of a value of one number that can be out of range. Other values have plus.
abbrev pub sign_of_one : ValueOfOne → ℤ → Sign
sign_of_one ones.Displayed number = sign_of number
sign_of_one value number = Plus

-- The sign of a value of two numbers that can be out of range.
abbrev pub sign_of_two : ValueOfTwo → (first second : ℤ) → Sign
sign_of_two twos.Sum y x = sign_of (y +ℤ x)
sign_of_two twos.Difference y x = sign_of (y -ℤ x)
sign_of_two twos.Product y x = sign_of (y *ℤ x)
sign_of_two twos.Quotient y x = sign_of (y *ℤ x)
sign_of_two twos.Remainder y x = Plus
sign_of_two twos.Percentage y x = sign_of (y *ℤ x)

-- The sign of a value that can be out of range.
abbrev pub sign_of_value : Value → RegisterMap → ℕ → Sign
sign_of_value (OfOne value a) memory named = sign_of_one value (amount_in memory named a)
sign_of_value (OfTwo value a b) memory named =
    sign_of_two value (amount_in memory named a) (amount_in memory named b)
sign_of_value value memory named = Plus

-- The register that contains a number.
pub record IsRegisterOf (number : ℤ) (register : List ℕ) : Type 0 where
  pub valid : IsRegister 14 register
  pub holds : holding_of register ≡ Number number

-- The register of a result, or its error. If flag 24 is set, a result that is out of range becomes
-- the greatest number with the sign.
abbrev pub Kept : Sign → Bool → Result Ten DecimalFault → Result (List ℕ) LineFault → Type 0
Kept sign ignored (Ok number) result = IsOkAnd result (IsRegisterOf (units number))
Kept sign ignored (Err Data) result = result ≡ Err DataError
Kept sign ignored (Err Range) result =
    MatchBool ignored (IsOkAnd result (IsRegisterOf (with_sign sign size_of_greatest)))
    (result ≡ Err OutOfRange)

-- A value is computed: it has a register or an error.
pub record Computes (value : Value) (memory : RegisterMap)
    (named : ℕ) (result : Result (List ℕ) LineFault) : Type 0 where
  pub answer : Result Ten DecimalFault
  pub nearest : IsValue value memory named answer
  pub kept : Kept (sign_of_value value memory named) (flag_of memory range_ignore) answer result
