-- The table of the words: the row of each of the 1,024 words, and the number of words of an
-- instruction. The numbers of words are those of the instruction set of HP's Nut processor.
use Rattle.std.specs.Prelude.{◌≡◌, ℕ, ◌+◌, ◌-◌, ◌*◌, ◌%◌, ◌<◌, ◌≤◌, ℤ, pos, negsuc, ◌≤ℤ◌, Bool}
use Rattle.std.specs.Prelude.{false, ◌||◌, ◌↔◌, List, [], ◌∷◌, map, Contains, Option, Some, None}
use Rattle.std.specs.Prelude.{◌==◌, if◌then◌else◌}
use Rattle.std.specs.List.{position_or_len}
use Rattle.h41_fields.specs.declared.field.Field.{Field}
use Rattle.h41_fields.specs.declared.field.Field.TheVariants.{AtPointer, SignAndExponent, ToPointer}
use Rattle.h41_fields.specs.declared.field.Field.TheVariants.{All, PToQ, ExponentSign, Mantissa}
use Rattle.h41_fields.specs.declared.field.Field.TheVariants.{MantissaSign}
use Rattle.h41_fields.specs.declared.field.Pointer.TheVariants.{P, Q}
use Rattle.h41_words.specs.declared.operation.Operation.{Operation}
use Rattle.h41_words.specs.declared.operation.Operation.TheVariants.{ClearA, ClearB, ClearC}
use Rattle.h41_words.specs.declared.operation.Operation.TheVariants.{ExchangeAB, AToB, ExchangeAC}
use Rattle.h41_words.specs.declared.operation.Operation.TheVariants.{BToC, ExchangeBC, CToA}
use Rattle.h41_words.specs.declared.operation.Operation.TheVariants.{AddBToA, AddCToA, IncrementA}
use Rattle.h41_words.specs.declared.operation.Operation.TheVariants.{SubtractBFromA, DecrementA}
use Rattle.h41_words.specs.declared.operation.Operation.TheVariants.{SubtractCFromA, DoubleC}
use Rattle.h41_words.specs.declared.operation.Operation.TheVariants.{AddAToC, IncrementC}
use Rattle.h41_words.specs.declared.operation.Operation.TheVariants.{SubtractCFromAToC, DecrementC}
use Rattle.h41_words.specs.declared.operation.Operation.TheVariants.{NegateC, ComplementC}
use Rattle.h41_words.specs.declared.operation.Operation.TheVariants.{TestBNonzero, TestCNonzero}
use Rattle.h41_words.specs.declared.operation.Operation.TheVariants.{TestALessThanC, TestALessThanB}
use Rattle.h41_words.specs.declared.operation.Operation.TheVariants.{TestANonzero}
use Rattle.h41_words.specs.declared.operation.Operation.TheVariants.{TestADiffersFromC, ShiftRightA}
use Rattle.h41_words.specs.declared.operation.Operation.TheVariants.{ShiftRightB, ShiftRightC}
use Rattle.h41_words.specs.declared.operation.Operation.TheVariants.{ShiftLeftA}
use Rattle.h41_words.specs.declared.rows.Row.{Row}
use Rattle.h41_words.specs.declared.rows.Row.TheVariants as rows
use Rattle.h41_words.specs.declared.rows.RegisterTransfer.{RegisterTransfer}
use Rattle.h41_words.specs.declared.rows.RegisterTransfer.TheVariants.{CToG, GToC, ExchangeCG, CToM}
use Rattle.h41_words.specs.declared.rows.RegisterTransfer.TheVariants.{MToC, ExchangeCM, StatusToT}
use Rattle.h41_words.specs.declared.rows.RegisterTransfer.TheVariants.{TToStatus, ExchangeStatusT}
use Rattle.h41_words.specs.declared.rows.RegisterTransfer.TheVariants.{CToStatus, StatusToC}
use Rattle.h41_words.specs.declared.rows.RegisterTransfer.TheVariants.{ExchangeCStatus, CToN, NToC}
use Rattle.h41_words.specs.declared.rows.RegisterTransfer.TheVariants.{ExchangeCN}
use Rattle.h41_words.specs.declared.rows.Bank.TheVariants.{First, Second, Third, Fourth}
use Rattle.h41_words.specs.declared.rows.Condition.{Condition}
use Rattle.h41_words.specs.declared.rows.Condition.TheVariants.{NoCarry, Carry}
use Rattle.h41_words.specs.Counts.{word_count, status_bit_count, place_count, digit_count}
use Rattle.h41_words.specs.Counts.{block_register_count, least_displacement, greatest_displacement}
use Rattle.h41_words.specs.Listing.{listed_rows}
use Rattle.h41_words.specs.Unassigned.{unassigned_words}

-- The number of a field: bits 4 to 2 of an arithmetic word.
abbrev pub field_number : Field → ℕ
field_number AtPointer = 0
field_number SignAndExponent = 1
field_number ToPointer = 2
field_number All = 3
field_number PToQ = 4
field_number ExponentSign = 5
field_number Mantissa = 6
field_number MantissaSign = 7

-- The number of an operation: bits 9 to 5 of an arithmetic word.
abbrev pub operation_number : Operation → ℕ
operation_number ClearA = 0x00
operation_number ClearB = 0x01
operation_number ClearC = 0x02
operation_number ExchangeAB = 0x03
operation_number AToB = 0x04
operation_number ExchangeAC = 0x05
operation_number BToC = 0x06
operation_number ExchangeBC = 0x07
operation_number CToA = 0x08
operation_number AddBToA = 0x09
operation_number AddCToA = 0x0A
operation_number IncrementA = 0x0B
operation_number SubtractBFromA = 0x0C
operation_number DecrementA = 0x0D
operation_number SubtractCFromA = 0x0E
operation_number DoubleC = 0x0F
operation_number AddAToC = 0x10
operation_number IncrementC = 0x11
operation_number SubtractCFromAToC = 0x12
operation_number DecrementC = 0x13
operation_number NegateC = 0x14
operation_number ComplementC = 0x15
operation_number TestBNonzero = 0x16
operation_number TestCNonzero = 0x17
operation_number TestALessThanC = 0x18
operation_number TestALessThanB = 0x19
operation_number TestANonzero = 0x1A
operation_number TestADiffersFromC = 0x1B
operation_number ShiftRightA = 0x1C
operation_number ShiftRightB = 0x1D
operation_number ShiftRightC = 0x1E
operation_number ShiftLeftA = 0x1F

-- The words whose two low bits are 00 are arranged in 16 lines, bits 9 to 6, and 16 columns, the
-- six low bits.
abbrev pub word_at : ℕ → ℕ → ℕ
word_at line column = line * 0x40 + column

-- The mapped columns: the number that each of the lines 0 to F means there. Lines 7 and F mean
-- none.
abbrev pub mapped_column : List (Option ℕ)
mapped_column =
    Some 3 ∷ Some 4 ∷ Some 5 ∷ Some 10 ∷ Some 8 ∷ Some 6 ∷ Some 11 ∷ None
    ∷ Some 2 ∷ Some 9 ∷ Some 7 ∷ Some 13 ∷ Some 1 ∷ Some 12 ∷ Some 0 ∷ None ∷ []

-- Whether a line of a mapped column means this number.
abbrev pub means : ℕ → Option ℕ → Bool
means number None = false
means number (Some meant) = meant == number

-- The line of a mapped column that means a number.
abbrev pub mapped_line : ℕ → ℕ
mapped_line number = position_or_len (means number) mapped_column

-- The displacement of a short jump as its bits 9 to 3: for example, -1 is 127 and -64 is 64.
abbrev pub displacement_bits : ℤ → ℕ
displacement_bits (pos words) = words
displacement_bits (negsuc words) = 127 - words

-- The condition of a short jump as its bit 2.
abbrev pub condition_bit : Condition → ℕ
condition_bit NoCarry = 0
condition_bit Carry = 1

-- The number of the word of a copy or an exchange.
abbrev pub transfer_number : RegisterTransfer → ℕ
transfer_number CToG = 0x058
transfer_number GToC = 0x098
transfer_number ExchangeCG = 0x0D8
transfer_number CToM = 0x158
transfer_number MToC = 0x198
transfer_number ExchangeCM = 0x1D8
transfer_number StatusToT = 0x258
transfer_number TToStatus = 0x298
transfer_number ExchangeStatusT = 0x2D8
transfer_number CToStatus = 0x358
transfer_number StatusToC = 0x398
transfer_number ExchangeCStatus = 0x3D8
transfer_number CToN = 0x070
transfer_number NToC = 0x0B0
transfer_number ExchangeCN = 0x0F0

-- The number of a row's word.
unfoldable pub number_of : Row → ℕ
-- OPERATION FIELD: the two low bits are 10.
number_of (rows.Arithmetic operation field) =
    operation_number operation * 32 + field_number field * 4 + 2
-- The first word of ?NC XQ and the like: the low byte of the address, and 01.
number_of (rows.LongJump low_byte) = low_byte * 4 + 1
-- JNC and JC: the displacement, the condition, and 11.
number_of (rows.ShortJump condition displacement) =
    displacement_bits displacement * 8 + condition_bit condition * 4 + 3
-- CLRF n, SETF n, ?FSET n, ?R= n, R= n and RCR n: these are the mapped columns.
number_of (rows.ClearStatus bit) = word_at (mapped_line bit) 0x04
number_of (rows.SetStatus bit) = word_at (mapped_line bit) 0x08
number_of (rows.TestStatus bit) = word_at (mapped_line bit) 0x0C
number_of (rows.TestPointer place) = word_at (mapped_line place) 0x14
number_of (rows.SetPointer place) = word_at (mapped_line place) 0x1C
number_of (rows.RotateRight digits) = word_at (mapped_line digits) 0x3C
-- LD@R n, WRIT n and READ n: n is the line.
number_of (rows.LoadDigit digit) = word_at digit 0x10
number_of (rows.Write register) = word_at register 0x28
number_of (rows.Read register) = word_at register 0x38
-- CON hhh: the number itself.
number_of (rows.Constant number) = number
-- The single words.
number_of rows.Nop = 0x000
number_of rows.WriteRom = 0x040
number_of (rows.EnableBank First) = 0x100
number_of (rows.EnableBank Second) = 0x180
number_of (rows.EnableBank Third) = 0x140
number_of (rows.EnableBank Fourth) = 0x1C0
number_of rows.ClearStatusByte = 0x3C4
number_of rows.ClearKeyFlag = 0x3C8
number_of rows.TestKeyFlag = 0x3CC
number_of rows.DecrementPointer = 0x3D4
number_of rows.IncrementPointer = 0x3DC
number_of rows.ReadData = 0x038
number_of rows.DropReturn = 0x020
number_of rows.PowerOff = 0x060
number_of (rows.SelectPointer P) = 0x0A0
number_of (rows.SelectPointer Q) = 0x0E0
number_of rows.TestPointersEqual = 0x120
number_of rows.TestLowBattery = 0x160
number_of rows.ClearRegisters = 0x1A0
number_of rows.GoToAddress = 0x1E0
number_of rows.ReadKey = 0x220
number_of rows.SetHexadecimal = 0x260
number_of rows.SetDecimal = 0x2A0
number_of rows.DisplayOff = 0x2E0
number_of rows.ToggleDisplay = 0x320
number_of (rows.ReturnIf Carry) = 0x360
number_of (rows.ReturnIf NoCarry) = 0x3A0
number_of rows.Return = 0x3E0
number_of rows.LoadImmediate = 0x130
number_of rows.PushAddress = 0x170
number_of rows.PopAddress = 0x1B0
number_of rows.GoToKey = 0x230
number_of rows.SelectRegister = 0x270
number_of rows.WriteData = 0x2F0
number_of rows.FetchWord = 0x330
number_of rows.Or = 0x370
number_of rows.And = 0x3B0
number_of rows.SelectPeripheral = 0x3F0
number_of (rows.Transfer transfer) = transfer_number transfer

-- The rows of a list, each with the number of its word.
abbrev pub with_numbers : List Row → List (ℕ × Row)
with_numbers some = map (λ row. (number_of row, row)) some

-- The table: all rows, each with the number of its word.
unfoldable pub word_table : List (ℕ × Row)
word_table = with_numbers listed_rows

-- The row of a word in a table, or CON if the word has none there.
abbrev pub row_in : List (ℕ × Row) → ℕ → Row
row_in [] word = rows.Constant word
row_in (entry ∷ entries) word = if entry.0 == word then entry.1 else row_in entries word

-- The row of a word.
unfoldable pub row_of : ℕ → Row
row_of word = row_in word_table word

-- The operands of a row are in their ranges.
abbrev pub IsRow : Row → Type 0
IsRow (rows.LongJump low_byte) = low_byte < 256
IsRow (rows.ShortJump condition displacement) =
    (least_displacement ≤ℤ displacement) × (displacement ≤ℤ greatest_displacement)
IsRow (rows.ClearStatus bit) = bit < status_bit_count
IsRow (rows.SetStatus bit) = bit < status_bit_count
IsRow (rows.TestStatus bit) = bit < status_bit_count
IsRow (rows.TestPointer place) = place < place_count
IsRow (rows.SetPointer place) = place < place_count
IsRow (rows.RotateRight digits) = digits < place_count
IsRow (rows.LoadDigit digit) = digit < digit_count
IsRow (rows.Write register) = register < block_register_count
IsRow (rows.Read register) = (1 ≤ register) × (register < block_register_count)
IsRow (rows.Constant number) = Contains unassigned_words number
IsRow row = Unit {0}

-- The word table round trip: the row of a word has the word's number.
abbrev pub WordOfRow : Type 0
WordOfRow = (word : ℕ) → word < word_count → number_of (row_of word) ≡ word

-- Each row is the row of exactly one word.
abbrev pub OneWordOfRow : Type 0
OneWordOfRow = (row : Row) → IsRow row → (word : ℕ) → (row_of word ≡ row) ↔ (word ≡ number_of row)

-- The number of words of an instruction: two if its first word is a jump by address (its two low
-- bits are 01) or LDI, otherwise one.
unfoldable pub length_of : ℕ → ℕ
length_of word = if word % 4 == 1 || word == 0x130 then 2 else 1

-- The number of words of a row.
abbrev pub words_of : Row → ℕ
words_of (rows.LongJump low_byte) = 2
words_of rows.LoadImmediate = 2
words_of row = 1
