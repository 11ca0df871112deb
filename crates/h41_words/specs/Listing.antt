-- The list of all rows, family by family, and then the single words.
use Rattle.std.specs.Prelude.{◌-◌, ℤ, pos, negsuc, List, [], ◌∷◌, ◌++◌, map}
use Rattle.std.specs.List.{flat_map, range_with_len}
use Rattle.h41_fields.specs.declared.field.Field.{Field}
use Rattle.h41_fields.specs.declared.field.Field.TheVariants.{AtPointer, SignAndExponent, ToPointer}
use Rattle.h41_fields.specs.declared.field.Field.TheVariants.{All, PToQ, ExponentSign, Mantissa}
use Rattle.h41_fields.specs.declared.field.Field.TheVariants.{MantissaSign}
use Rattle.h41_fields.specs.declared.field.Pointer.TheVariants.{P, Q}
use Rattle.h41_words.specs.declared.operation.Operation.{Operation}
use Rattle.h41_words.specs.declared.operation.Operation.TheVariants.{ClearA, ClearB, ClearC}
use Rattle.h41_words.specs.declared.operation.Operation.TheVariants.{ExchangeAB, AToB, ExchangeAC}
use Rattle.h41_words.specs.declared.operation.Operation.TheVariants.{BToC, ExchangeBC, CToA}
use Rattle.h41_words.specs.declared.operation.Operation.TheVariants.{AddBToA, AddCToA, IncrementA}
use Rattle.h41_words.specs.declared.operation.Operation.TheVariants.{SubtractBFromA, DecrementA}
use Rattle.h41_words.specs.declared.operation.Operation.TheVariants.{SubtractCFromA, DoubleC}
use Rattle.h41_words.specs.declared.operation.Operation.TheVariants.{AddAToC, IncrementC}
use Rattle.h41_words.specs.declared.operation.Operation.TheVariants.{SubtractCFromAToC, DecrementC}
use Rattle.h41_words.specs.declared.operation.Operation.TheVariants.{NegateC, ComplementC}
use Rattle.h41_words.specs.declared.operation.Operation.TheVariants.{TestBNonzero, TestCNonzero}
use Rattle.h41_words.specs.declared.operation.Operation.TheVariants.{TestALessThanC, TestALessThanB}
use Rattle.h41_words.specs.declared.operation.Operation.TheVariants.{TestANonzero}
use Rattle.h41_words.specs.declared.operation.Operation.TheVariants.{TestADiffersFromC, ShiftRightA}
use Rattle.h41_words.specs.declared.operation.Operation.TheVariants.{ShiftRightB, ShiftRightC}
use Rattle.h41_words.specs.declared.operation.Operation.TheVariants.{ShiftLeftA}
use Rattle.h41_words.specs.declared.rows.Row.{Row}
use Rattle.h41_words.specs.declared.rows.Row.TheVariants as rows
use Rattle.h41_words.specs.declared.rows.RegisterTransfer.TheVariants.{CToG, GToC, ExchangeCG, CToM}
use Rattle.h41_words.specs.declared.rows.RegisterTransfer.TheVariants.{MToC, ExchangeCM, StatusToT}
use Rattle.h41_words.specs.declared.rows.RegisterTransfer.TheVariants.{TToStatus, ExchangeStatusT}
use Rattle.h41_words.specs.declared.rows.RegisterTransfer.TheVariants.{CToStatus, StatusToC}
use Rattle.h41_words.specs.declared.rows.RegisterTransfer.TheVariants.{ExchangeCStatus, CToN, NToC}
use Rattle.h41_words.specs.declared.rows.RegisterTransfer.TheVariants.{ExchangeCN}
use Rattle.h41_words.specs.declared.rows.Bank.TheVariants.{First, Second, Third, Fourth}
use Rattle.h41_words.specs.declared.rows.Condition.TheVariants.{NoCarry, Carry}
use Rattle.h41_words.specs.Counts.{status_bit_count, place_count, digit_count, block_register_count}

-- The fields in the order of their numbers.
abbrev pub fields : List Field
fields =
    AtPointer ∷ SignAndExponent ∷ ToPointer ∷ All ∷ PToQ ∷ ExponentSign ∷ Mantissa ∷ MantissaSign
    ∷ []

-- The operations in the order of their numbers.
abbrev pub operations : List Operation
operations =
    ClearA ∷ ClearB ∷ ClearC ∷ ExchangeAB ∷ AToB ∷ ExchangeAC ∷ BToC ∷ ExchangeBC ∷ CToA ∷ AddBToA
    ∷ AddCToA ∷ IncrementA ∷ SubtractBFromA ∷ DecrementA ∷ SubtractCFromA ∷ DoubleC ∷ AddAToC
    ∷ IncrementC ∷ SubtractCFromAToC ∷ DecrementC ∷ NegateC ∷ ComplementC ∷ TestBNonzero
    ∷ TestCNonzero ∷ TestALessThanC ∷ TestALessThanB ∷ TestANonzero ∷ TestADiffersFromC
    ∷ ShiftRightA ∷ ShiftRightB ∷ ShiftRightC ∷ ShiftLeftA ∷ []

-- The rows of the single words.
abbrev pub single_rows : List Row
single_rows =
    rows.Nop ∷ rows.WriteRom ∷ rows.EnableBank First ∷ rows.EnableBank Second
    ∷ rows.EnableBank Third ∷ rows.EnableBank Fourth ∷ rows.ClearStatusByte ∷ rows.ClearKeyFlag
    ∷ rows.TestKeyFlag ∷ rows.DecrementPointer ∷ rows.IncrementPointer ∷ rows.ReadData
    ∷ rows.Transfer CToG ∷ rows.Transfer GToC ∷ rows.Transfer ExchangeCG ∷ rows.Transfer CToM
    ∷ rows.Transfer MToC ∷ rows.Transfer ExchangeCM ∷ rows.Transfer StatusToT
    ∷ rows.Transfer TToStatus ∷ rows.Transfer ExchangeStatusT ∷ rows.Transfer CToStatus
    ∷ rows.Transfer StatusToC ∷ rows.Transfer ExchangeCStatus ∷ rows.DropReturn ∷ rows.PowerOff
    ∷ rows.SelectPointer P ∷ rows.SelectPointer Q ∷ rows.TestPointersEqual ∷ rows.TestLowBattery
    ∷ rows.ClearRegisters ∷ rows.GoToAddress ∷ rows.ReadKey ∷ rows.SetHexadecimal ∷ rows.SetDecimal
    ∷ rows.DisplayOff ∷ rows.ToggleDisplay ∷ rows.ReturnIf Carry ∷ rows.ReturnIf NoCarry
    ∷ rows.Return ∷ rows.Transfer CToN ∷ rows.Transfer NToC ∷ rows.Transfer ExchangeCN
    ∷ rows.LoadImmediate ∷ rows.PushAddress ∷ rows.PopAddress ∷ rows.GoToKey ∷ rows.SelectRegister
    ∷ rows.WriteData ∷ rows.FetchWord ∷ rows.Or ∷ rows.And ∷ rows.SelectPeripheral ∷ []

-- The displacements of short jumps.
abbrev pub displacements : List ℤ
displacements =
    map (λ words. pos words) (range_with_len 0 64)
    ++ map (λ words. negsuc words) (range_with_len 0 64)

-- The families in the order of the list, and the single words after them.
abbrev pub families : List (List Row)
families =
    flat_map (λ operation. map (λ field. rows.Arithmetic operation field) fields) operations
    ∷ map (λ low_byte. rows.LongJump low_byte) (range_with_len 0 256)
    ∷ map (λ displacement. rows.ShortJump NoCarry displacement) displacements
    ∷ map (λ displacement. rows.ShortJump Carry displacement) displacements
    ∷ map (λ bit. rows.ClearStatus bit) (range_with_len 0 status_bit_count)
    ∷ map (λ bit. rows.SetStatus bit) (range_with_len 0 status_bit_count)
    ∷ map (λ bit. rows.TestStatus bit) (range_with_len 0 status_bit_count)
    ∷ map (λ place. rows.TestPointer place) (range_with_len 0 place_count)
    ∷ map (λ place. rows.SetPointer place) (range_with_len 0 place_count)
    ∷ map (λ digits. rows.RotateRight digits) (range_with_len 0 place_count)
    ∷ map (λ digit. rows.LoadDigit digit) (range_with_len 0 digit_count)
    ∷ map (λ register. rows.Write register) (range_with_len 0 block_register_count)
    ∷ map (λ register. rows.Read register) (range_with_len 1 (block_register_count - 1))
    ∷ single_rows
    ∷ []

-- All rows.
unfoldable pub listed_rows : List Row
listed_rows = flat_map (λ family. family) families
