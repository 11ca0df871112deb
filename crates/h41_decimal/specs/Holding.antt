-- The content of a register of 14 digits: a number, ALPHA data, or neither.
use Rattle.std.specs.Prelude.{ℕ, zero, suc, ◌+◌, ◌-◌, ◌*◌, ◌^◌, ◌&&◌, List, [], ◌∷◌, map}
use Rattle.std.specs.Prelude.{slice_index, Option, Some, None, nat_le, nat_lt, ◌==◌, if◌then◌else◌}
use Rattle.std.specs.Prelude.{ℤ, pos}
use Rattle.std.specs.Option.{option_map}
use Rattle.h41_digits.specs.Register.{byte_at}
use Rattle.h41_decimal.specs.Signs.{with_sign}
use Rattle.h41_decimal.specs.Units.{size_of}
use Rattle.h41_decimal.specs.declared.sign.Sign.{Sign}
use Rattle.h41_decimal.specs.declared.sign.Sign.TheVariants.{Plus, Minus}

-- The content of a register.
pub data Holding : Type 0 where
  -- A number, given as its value in units.
  Number : ℤ → Holding
  -- ALPHA data, given as its bytes from the left.
  Text : List ℕ → Holding
  -- Neither a number nor ALPHA data.
  Other : Holding

-- The number that decimal digits of a register form, from a place upwards; none if one of them is
-- above 9.
abbrev pub decimal_in : List ℕ → ℕ → ℕ → Option ℕ
decimal_in register place zero = Some 0
decimal_in register place (suc count) =
    if nat_le (slice_index register place) 9
    then option_map (λ rest. slice_index register place + 10 * rest)
    (decimal_in register (place + 1) count)
    else None

-- The sign, in place 13: 0, or 9 for a negative number.
abbrev pub sign_in : ℕ → Option Sign
sign_in digit = if digit == 0 then Some Plus else if digit == 9 then Some Minus else None

-- The exponent, given as three digits, plus 99. The digits 0 to 99 are themselves; 901 to 999 are
-- -99 to -1, that is, 1000 minus the size.
abbrev pub steps_in : ℕ → Option ℕ
steps_in exponent =
    if nat_le exponent 99 then Some (exponent + 99)
    else if nat_le 901 exponent then Some (exponent - 901)
    else None

-- The value of ten digits, of which the first is not zero, with a sign and an exponent.
abbrev pub digits_worth : ℕ → Option Sign → Option ℕ → Option ℤ
digits_worth mantissa (Some sign) (Some steps) =
    if nat_lt mantissa (10 ^ 9) then None else Some (with_sign sign (size_of mantissa steps))
digits_worth mantissa _ _ = None

-- The value of the parts of a register. Zero is a register of zeros.
abbrev pub parts_worth : Option ℕ → Option ℕ → ℕ → Option ℤ
parts_worth (Some mantissa) (Some exponent) sign =
    if mantissa == 0 && exponent == 0 && sign == 0 then Some (pos 0)
    else digits_worth mantissa (sign_in sign) (steps_in exponent)
parts_worth _ _ sign = None

-- The value of the number in a register, if there is one. The mantissa is in places 3 to 12, the
-- exponent in places 0 to 2.
abbrev pub number_in : List ℕ → Option ℤ
number_in register =
    parts_worth (decimal_in register 3 10) (decimal_in register 0 3) (slice_index register 13)

-- The bytes without the leading ones that are zero.
abbrev pub after_nulls : List ℕ → List ℕ
after_nulls [] = []
after_nulls (byte ∷ bytes) = if byte == 0 then after_nulls bytes else byte ∷ bytes

-- ALPHA data has 1 in place 13, and up to six bytes at the right, in places 11 to 0. Place 12 is
-- ignored.
abbrev pub text_in : List ℕ → List ℕ
text_in register = after_nulls (map (byte_at register) (5 ∷ 4 ∷ 3 ∷ 2 ∷ 1 ∷ 0 ∷ []))

-- A number if there is one; otherwise ALPHA data if place 13 has 1.
abbrev pub holding : Option ℤ → List ℕ → Holding
holding (Some value) register = Number value
holding None register = if slice_index register 13 == 1 then Text (text_in register) else Other

-- The content of a register.
abbrev pub holding_of : List ℕ → Holding
holding_of register = holding (number_in register) register

-- The value of a number, if the register contains one.
abbrev pub worth : Holding → Option ℤ
worth (Number value) = Some value
worth (Text bytes) = None
worth Other = None
