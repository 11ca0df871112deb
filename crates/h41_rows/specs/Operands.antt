-- The meaning of a line's operand: a register, a number of digits, a flag, a label or a name; or
-- the error if it means none.
use Rattle.std.specs.Prelude.{ℕ, ◌-◌, ◌/◌, List, Option, Some, None, Result, Ok, Err, nat_le}
use Rattle.std.specs.Prelude.{nat_lt, if◌then◌else◌, ℤ, unsigned_abs}
use Rattle.h41_codes.specs.declared.functions.ParameterFunction.{ParameterFunction}
use Rattle.h41_codes.specs.declared.functions.ParameterFunction.TheVariants as functions
use Rattle.h41_codes.specs.declared.line.Line.{Line}
use Rattle.h41_codes.specs.declared.line.Line.TheVariants.{BranchIndirect, Register, WithOperand}
use Rattle.h41_codes.specs.declared.line.Operand.{Operand}
use Rattle.h41_codes.specs.declared.line.Operand.TheVariants.{Direct, Indirect}
use Rattle.h41_decimal.specs.Holding.{Holding, Number, Text, Other, holding_of, worth}
use Rattle.h41_decimal.specs.Units.{one}
use Rattle.h41_rows.specs.declared.fault.LineFault.{LineFault}
use Rattle.h41_rows.specs.declared.fault.LineFault.TheVariants.{AlphaData, DataError, Nonexistent}
use Rattle.h41_ram.specs.NamedRegisters.{data_address, size_of}
use Rattle.h41_ram.specs.RegisterMap.{RegisterMap, register_at}

-- The meaning of an operand.
pub data Meant : Type 0 where
  -- there is no operand, or it has no use
  NoOperand : Meant
  -- a register, by its address
  Address : ℕ → Meant
  -- a number of digits, a flag, or a label
  Count : ℕ → Meant
  -- the name of a label or of a function
  Name : List ℕ → Meant

-- The kind of operand that a function has. For flags it includes the highest one.
pub data Kind : Type 0 where
  RegisterKind : Kind
  DigitKind : Kind
  FlagKind : ℕ → Kind
  LabelKind : Kind

-- SF, CF, FS?C and FC?C work on flags up to 29, FS? and FC? on flags up to 55.
abbrev pub kind_of : ParameterFunction → Kind
kind_of functions.Fixed = DigitKind
kind_of functions.Scientific = DigitKind
kind_of functions.Engineering = DigitKind
kind_of functions.Tone = DigitKind
kind_of functions.SetFlag = FlagKind 29
kind_of functions.ClearFlag = FlagKind 29
kind_of functions.TestSetAndClear = FlagKind 29
kind_of functions.TestClearAndClear = FlagKind 29
kind_of functions.TestSet = FlagKind 55
kind_of functions.TestClear = FlagKind 55
kind_of functions.Label = LabelKind
kind_of function = RegisterKind

-- The address of data register n, or NONEXISTENT if n is not below SIZE.
abbrev pub data_register : RegisterMap → ℕ → Result ℕ LineFault
data_register memory n =
    if nat_lt n (size_of memory) then Ok (data_address memory n) else Err Nonexistent

-- The address of the register of a parameter: 00 to 99 are data registers, 112 to 116 are T, Z, Y,
-- X and L. Lines with other registers are not supported.
abbrev pub parameter_register : RegisterMap → ℕ → Result ℕ LineFault
parameter_register memory parameter =
    if nat_lt parameter 100 then data_register memory parameter else Ok (parameter - 112)

-- A result is used in the next step; an error is the result of both.
abbrev pub then_find : {A : Type 0} {B : Type 0} → Result A LineFault → (A → Result B LineFault)
    → Result B LineFault
then_find (Ok found) next = next found
then_find (Err fault) next = Err fault

-- The integer part of a number's size. It is ALPHA DATA if a register contains no number, whether
-- it contains ALPHA data or neither (the latter is this project's choice).
abbrev pub whole_of : Option ℤ → Result ℕ LineFault
whole_of (Some number) = Ok (unsigned_abs number / one)
whole_of None = Err AlphaData

-- The whole number in the register at an address.
abbrev pub whole_at : RegisterMap → ℕ → Result ℕ LineFault
whole_at memory address = whole_of (worth (holding_of (register_at memory address)))

-- The number of a direct operand, or the whole number in the register of an indirect one.
abbrev pub number_of : RegisterMap → Operand → Result ℕ LineFault
number_of memory (Direct parameter) = Ok parameter
number_of memory (Indirect parameter) =
    then_find (parameter_register memory parameter) (whole_at memory)

-- The address of the register of a direct operand, or of the data register whose number is in the
-- register of an indirect one.
abbrev pub address_of : RegisterMap → Operand → Result ℕ LineFault
address_of memory (Direct parameter) = parameter_register memory parameter
address_of memory (Indirect parameter) =
    then_find (number_of memory (Indirect parameter)) (data_register memory)

-- A number of digits is at most 9, otherwise it is DATA ERROR. For a number in the line itself this
-- is this project's choice.
abbrev pub digit : ℕ → Result Meant LineFault
digit n = if nat_le n 9 then Ok (Count n) else Err DataError

-- A flag is at most the highest one, otherwise it is NONEXISTENT.
abbrev pub flag : ℕ → ℕ → Result Meant LineFault
flag highest n = if nat_le n highest then Ok (Count n) else Err Nonexistent

-- The meaning of an operand of a kind.
abbrev pub meant_as : Kind → RegisterMap → Operand → Result Meant LineFault
meant_as RegisterKind memory operand =
    then_find (address_of memory operand) (λ address. Ok (Address address))
meant_as DigitKind memory operand = then_find (number_of memory operand) digit
meant_as (FlagKind highest) memory operand = then_find (number_of memory operand) (flag highest)
meant_as LabelKind memory operand = Ok NoOperand

-- The label of a number is below 100, otherwise it is NONEXISTENT. The bound is this project's
-- choice.
abbrev pub label_of : ℕ → Result Meant LineFault
label_of n = if nat_lt n 100 then Ok (Count n) else Err Nonexistent

-- The target of GTO IND and XEQ IND is a label for a number, and a name for ALPHA data. It is ALPHA
-- DATA if the register contains neither, which is this project's choice.
abbrev pub target_of : Holding → Result Meant LineFault
target_of (Number value) = label_of (unsigned_abs value / one)
target_of (Text bytes) = Ok (Name bytes)
target_of Other = Err AlphaData

-- The meaning of the operand of a line.
abbrev pub meant_of : RegisterMap → Line → Result Meant LineFault
meant_of memory (Register function register) =
    then_find (data_register memory register) (λ address. Ok (Address address))
meant_of memory (WithOperand function operand) = meant_as (kind_of function) memory operand
meant_of memory (BranchIndirect branch register) =
    then_find (parameter_register memory register)
    (λ address. target_of (holding_of (register_at memory address)))
meant_of memory line = Ok NoOperand
