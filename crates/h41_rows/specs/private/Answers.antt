-- The results of computations with numbers, before they are stored in a register.
use Rattle.std.specs.Prelude.{◌≡◌, ℕ, Some, None, Result, Ok, Err, MatchBool, IsOkAnd}
use Rattle.std.specs.Prelude.{⊤, Bool, List, pos}
use Rattle.h41_decimal.specs.Holding.{holding_of, worth}
use Rattle.h41_decimal.specs.NumberEntry.{size_of_greatest}
use Rattle.h41_decimal.specs.Signs.{with_sign}
use Rattle.h41_decimal.specs.Units.{units}
use Rattle.h41_decimal.specs.declared.fault.DecimalFault.{DecimalFault}
use Rattle.h41_decimal.specs.declared.places.Places.{Places}
use Rattle.h41_decimal.specs.declared.sign.Sign.{Sign}
use Rattle.h41_decimal.specs.declared.ten.Ten.{Ten}
use Rattle.h41_ram.specs.NamedFlags.{range_ignore}
use Rattle.h41_ram.specs.RegisterMap.{RegisterMap, flag_of}
use Rattle.h41_show.specs.DisplayFormat.{format_of}
use Rattle.h41_rows.specs.Computing.{IsAlways, WorksOn}
use Rattle.h41_rows.specs.Places.{RowPlace, register_in}
use Rattle.h41_rows.specs.Values.{Given, IsOfOne, IsOfTwo, IsRegisterOf, Kept, OfOne, OfTwo}
use Rattle.h41_rows.specs.Values.{places_of, sign_of_one, sign_of_two}
use Rattle.h41_rows.specs.declared.fault.LineFault.{LineFault}
use Rattle.h41_rows.specs.declared.fault.LineFault.TheVariants.{AlphaData, OutOfRange}
use Rattle.h41_rows.specs.declared.values.ValueOfOne.{ValueOfOne}
use Rattle.h41_rows.specs.declared.values.ValueOfOne.TheVariants as ones
use Rattle.h41_rows.specs.declared.values.ValueOfTwo.{ValueOfTwo}

-- The number in a register, or ALPHA DATA if it contains none.
abbrev pub IsNumberIn : List ℕ → Result Ten LineFault → Type 0
IsNumberIn register (Ok number) = worth (holding_of register) ≡ Some (units number)
IsNumberIn register (Err fault) = (worth (holding_of register) ≡ None) × (fault ≡ AlphaData)

-- The places to which a value is rounded: those of the display format for the displayed value.
abbrev pub RoundsAt : ValueOfOne → RegisterMap → Places → Type 0
RoundsAt ones.Displayed memory places = places ≡ places_of (format_of memory)
RoundsAt value memory places = ⊤

-- The register for a result that is out of range, which depends on flag 24.
abbrev pub KeptByFlag : Bool → Sign → Result (List ℕ) LineFault → Type 0
KeptByFlag ignores_range sign result =
    MatchBool ignores_range
    (IsOkAnd result (IsRegisterOf (with_sign sign size_of_greatest))) (result ≡ Err OutOfRange)

-- The register of a value of one number, or its error.
pub record KeptOne (value : ValueOfOne) (places : Places) (ignores_range : Bool)
    (number : Ten) (result : Result (List ℕ) LineFault) : Type 0 where
  pub answer : Result Ten DecimalFault
  pub answers : IsOfOne value places (units number) answer
  pub kept : Kept (sign_of_one value (units number)) ignores_range answer result

-- The register of a value of two numbers, or its error.
pub record KeptTwo (value : ValueOfTwo) (ignores_range : Bool)
    (x y : Ten) (result : Result (List ℕ) LineFault) : Type 0 where
  pub answer : Result Ten DecimalFault
  pub answers : IsOfTwo value (units x) (units y) answer
  pub kept : Kept (sign_of_two value (units x) (units y)) ignores_range answer result

-- A value of the number in a register, for each memory that contains the register, has this flag 24
-- and rounds to these places, whatever name its place has.
abbrev pub WorksOnRegister : ValueOfOne → List ℕ → Places → Bool
    → Result (List ℕ) LineFault → Type 0
WorksOnRegister value register places ignores_range result =
    (memory : RegisterMap) (named : ℕ) (a : RowPlace)
    → register_in memory named a ≡ register
    → RoundsAt value memory places
    → flag_of memory range_ignore ≡ ignores_range
    → WorksOn memory named (OfOne value a) result

-- A value of the numbers in two registers, for each memory that contains the registers and has this
-- flag 24, whatever names their places have.
abbrev pub WorksOnRegisters : ValueOfTwo → List ℕ → List ℕ → Bool
    → Result (List ℕ) LineFault → Type 0
WorksOnRegisters value first second ignores_range result =
    (memory : RegisterMap) (named : ℕ) (a b : RowPlace)
    → register_in memory named a ≡ first → register_in memory named b ≡ second
    → flag_of memory range_ignore ≡ ignores_range
    → WorksOn memory named (OfTwo value a b) result

-- The result for a register without a number: the error, except for the unit, which is zero.
abbrev pub WithoutNumber : ValueOfOne → LineFault → Result (List ℕ) LineFault → Type 0
WithoutNumber ones.Unit fault result =
    IsOkAnd result (λ register. IsAlways (Given (pos 0)) register)
WithoutNumber value fault result = result ≡ Err fault
