-- The text of each instruction in this project's table of mnemonics: its name, followed by a space
-- and an operand if it has one. Addresses, displacements and the numbers of LDI and CON are in
-- upper-case hexadecimal, the other operands in decimal.
use Rattle.std.specs.Prelude.{ℕ, ◌+◌, ◌*◌, ℤ, pos, negsuc, List, [], ◌++◌, Option, Some, None}
use Rattle.std.specs.Prelude.{codes}
use Rattle.std.specs.Fmt.{decimal}
use Rattle.h41_digits.specs.Register.{hexadecimal_text}
use Rattle.h41_fields.specs.declared.field.Field.{Field}
use Rattle.h41_fields.specs.declared.field.Field.TheVariants.{AtPointer, SignAndExponent, ToPointer}
use Rattle.h41_fields.specs.declared.field.Field.TheVariants.{All, PToQ, ExponentSign, Mantissa}
use Rattle.h41_fields.specs.declared.field.Field.TheVariants.{MantissaSign}
use Rattle.h41_fields.specs.declared.field.Pointer.{Pointer}
use Rattle.h41_fields.specs.declared.field.Pointer.TheVariants.{P, Q}
use Rattle.h41_words.specs.declared.operation.Operation.{Operation}
use Rattle.h41_words.specs.declared.operation.Operation.TheVariants.{ClearA, ClearB, ClearC}
use Rattle.h41_words.specs.declared.operation.Operation.TheVariants.{ExchangeAB, AToB, ExchangeAC}
use Rattle.h41_words.specs.declared.operation.Operation.TheVariants.{BToC, ExchangeBC, CToA}
use Rattle.h41_words.specs.declared.operation.Operation.TheVariants.{AddBToA, AddCToA, IncrementA}
use Rattle.h41_words.specs.declared.operation.Operation.TheVariants.{SubtractBFromA, DecrementA}
use Rattle.h41_words.specs.declared.operation.Operation.TheVariants.{SubtractCFromA, DoubleC}
use Rattle.h41_words.specs.declared.operation.Operation.TheVariants.{AddAToC, IncrementC}
use Rattle.h41_words.specs.declared.operation.Operation.TheVariants.{SubtractCFromAToC, DecrementC}
use Rattle.h41_words.specs.declared.operation.Operation.TheVariants.{NegateC, ComplementC}
use Rattle.h41_words.specs.declared.operation.Operation.TheVariants.{TestBNonzero, TestCNonzero}
use Rattle.h41_words.specs.declared.operation.Operation.TheVariants.{TestALessThanC, TestALessThanB}
use Rattle.h41_words.specs.declared.operation.Operation.TheVariants.{TestANonzero}
use Rattle.h41_words.specs.declared.operation.Operation.TheVariants.{TestADiffersFromC, ShiftRightA}
use Rattle.h41_words.specs.declared.operation.Operation.TheVariants.{ShiftRightB, ShiftRightC}
use Rattle.h41_words.specs.declared.operation.Operation.TheVariants.{ShiftLeftA}
use Rattle.h41_words.specs.declared.rows.Row.{Row}
use Rattle.h41_words.specs.declared.rows.Row.TheVariants as rows
use Rattle.h41_words.specs.declared.rows.RegisterTransfer.{RegisterTransfer}
use Rattle.h41_words.specs.declared.rows.RegisterTransfer.TheVariants.{CToG, GToC, ExchangeCG, CToM}
use Rattle.h41_words.specs.declared.rows.RegisterTransfer.TheVariants.{MToC, ExchangeCM, StatusToT}
use Rattle.h41_words.specs.declared.rows.RegisterTransfer.TheVariants.{TToStatus, ExchangeStatusT}
use Rattle.h41_words.specs.declared.rows.RegisterTransfer.TheVariants.{CToStatus, StatusToC}
use Rattle.h41_words.specs.declared.rows.RegisterTransfer.TheVariants.{ExchangeCStatus, CToN, NToC}
use Rattle.h41_words.specs.declared.rows.RegisterTransfer.TheVariants.{ExchangeCN}
use Rattle.h41_words.specs.declared.rows.Bank.{Bank}
use Rattle.h41_words.specs.declared.rows.Bank.TheVariants.{First, Second, Third, Fourth}
use Rattle.h41_words.specs.declared.rows.Condition.{Condition}
use Rattle.h41_words.specs.declared.rows.Condition.TheVariants.{NoCarry, Carry}
use Rattle.h41_words.specs.declared.second_word.LongJumpKind.{LongJumpKind}
use Rattle.h41_words.specs.declared.second_word.LongJumpKind.TheVariants.{Execute, Go}
use Rattle.h41_words.specs.declared.second_word.SecondWord.{SecondWord}
use Rattle.h41_words.specs.SecondWord.{second_of}
use Rattle.h41_words.specs.WordTable.{number_of}

-- The names of the fields.
abbrev pub field_text : Field → List ℕ
field_text AtPointer = codes "@R"
field_text SignAndExponent = codes "S&X"
field_text ToPointer = codes "R<"
field_text All = codes "ALL"
field_text PToQ = codes "P-Q"
field_text ExponentSign = codes "XS"
field_text Mantissa = codes "M"
field_text MantissaSign = codes "MS"

-- The names of the operations.
abbrev pub operation_text : Operation → List ℕ
operation_text ClearA = codes "A=0"
operation_text ClearB = codes "B=0"
operation_text ClearC = codes "C=0"
operation_text ExchangeAB = codes "A<>B"
operation_text AToB = codes "B=A"
operation_text ExchangeAC = codes "A<>C"
operation_text BToC = codes "C=B"
operation_text ExchangeBC = codes "B<>C"
operation_text CToA = codes "A=C"
operation_text AddBToA = codes "A=A+B"
operation_text AddCToA = codes "A=A+C"
operation_text IncrementA = codes "A=A+1"
operation_text SubtractBFromA = codes "A=A-B"
operation_text DecrementA = codes "A=A-1"
operation_text SubtractCFromA = codes "A=A-C"
operation_text DoubleC = codes "C=C+C"
operation_text AddAToC = codes "C=A+C"
operation_text IncrementC = codes "C=C+1"
operation_text SubtractCFromAToC = codes "C=A-C"
operation_text DecrementC = codes "C=C-1"
operation_text NegateC = codes "C=0-C"
operation_text ComplementC = codes "C=-C-1"
operation_text TestBNonzero = codes "?B#0"
operation_text TestCNonzero = codes "?C#0"
operation_text TestALessThanC = codes "?A<C"
operation_text TestALessThanB = codes "?A<B"
operation_text TestANonzero = codes "?A#0"
operation_text TestADiffersFromC = codes "?A#C"
operation_text ShiftRightA = codes "RSHFA"
operation_text ShiftRightB = codes "RSHFB"
operation_text ShiftRightC = codes "RSHFC"
operation_text ShiftLeftA = codes "LSHFA"

-- The names of the copies and exchanges.
abbrev pub transfer_text : RegisterTransfer → List ℕ
transfer_text CToG = codes "G=C"
transfer_text GToC = codes "C=G"
transfer_text ExchangeCG = codes "C<>G"
transfer_text CToM = codes "M=C"
transfer_text MToC = codes "C=M"
transfer_text ExchangeCM = codes "C<>M"
transfer_text StatusToT = codes "T=ST"
transfer_text TToStatus = codes "ST=T"
transfer_text ExchangeStatusT = codes "ST<>T"
transfer_text CToStatus = codes "ST=C"
transfer_text StatusToC = codes "C=ST"
transfer_text ExchangeCStatus = codes "C<>ST"
transfer_text CToN = codes "N=C"
transfer_text NToC = codes "C=N"
transfer_text ExchangeCN = codes "C<>N"

-- The names of the words that activate a bank.
abbrev pub bank_text : Bank → List ℕ
bank_text First = codes "ENBANK1"
bank_text Second = codes "ENBANK2"
bank_text Third = codes "ENBANK3"
bank_text Fourth = codes "ENBANK4"

-- The names of the words that select a pointer.
abbrev pub selection_text : Pointer → List ℕ
selection_text P = codes "SLCT P"
selection_text Q = codes "SLCT Q"

-- The names of the returns with a condition.
abbrev pub return_text : Condition → List ℕ
return_text NoCarry = codes "?NC RTN"
return_text Carry = codes "?C RTN"

-- The names of the four jumps by address.
abbrev pub long_jump_text : Condition → LongJumpKind → List ℕ
long_jump_text NoCarry Execute = codes "?NC XQ"
long_jump_text Carry Execute = codes "?C XQ"
long_jump_text NoCarry Go = codes "?NC GO"
long_jump_text Carry Go = codes "?C GO"

-- The names of the two jumps by a displacement.
abbrev pub short_jump_text : Condition → List ℕ
short_jump_text NoCarry = codes "JNC"
short_jump_text Carry = codes "JC"

-- A displacement: its sign and two digits; +00 if it is zero.
abbrev pub displacement_text : ℤ → List ℕ
displacement_text (pos words) = codes "+" ++ hexadecimal_text 2 words
displacement_text (negsuc words) = codes "-" ++ hexadecimal_text 2 (words + 1)

-- The mnemonic of a row of one word. It is CON for a word that is no instruction, and for the first
-- word of an instruction of two words without its second word.
abbrev pub mnemonic : Row → List ℕ
mnemonic (rows.Arithmetic operation field) = operation_text operation
mnemonic (rows.LongJump low_byte) = codes "CON"
mnemonic (rows.ShortJump condition displacement) = short_jump_text condition
mnemonic (rows.ClearStatus bit) = codes "CLRF"
mnemonic (rows.SetStatus bit) = codes "SETF"
mnemonic (rows.TestStatus bit) = codes "?FSET"
mnemonic (rows.TestPointer place) = codes "?R="
mnemonic (rows.SetPointer place) = codes "R="
mnemonic (rows.RotateRight digits) = codes "RCR"
mnemonic (rows.LoadDigit digit) = codes "LD@R"
mnemonic (rows.Write register) = codes "WRIT"
mnemonic (rows.Read register) = codes "READ"
mnemonic (rows.Constant number) = codes "CON"
mnemonic rows.LoadImmediate = codes "CON"
mnemonic rows.Nop = codes "NOP"
mnemonic rows.WriteRom = codes "WROM"
mnemonic (rows.EnableBank bank) = bank_text bank
mnemonic rows.ClearStatusByte = codes "ST=0"
mnemonic rows.ClearKeyFlag = codes "CLRKEY"
mnemonic rows.TestKeyFlag = codes "?KEY"
mnemonic rows.DecrementPointer = codes "R=R-1"
mnemonic rows.IncrementPointer = codes "R=R+1"
mnemonic rows.ReadData = codes "READ DATA"
mnemonic rows.DropReturn = codes "XQ->GO"
mnemonic rows.PowerOff = codes "POWOFF"
mnemonic (rows.SelectPointer pointer) = selection_text pointer
mnemonic rows.TestPointersEqual = codes "?P=Q"
mnemonic rows.TestLowBattery = codes "?LLD"
mnemonic rows.ClearRegisters = codes "CLRABC"
mnemonic rows.GoToAddress = codes "GOTO ADR"
mnemonic rows.ReadKey = codes "C=KEY"
mnemonic rows.SetHexadecimal = codes "SETHEX"
mnemonic rows.SetDecimal = codes "SETDEC"
mnemonic rows.DisplayOff = codes "DISOFF"
mnemonic rows.ToggleDisplay = codes "DISTOG"
mnemonic (rows.ReturnIf condition) = return_text condition
mnemonic rows.Return = codes "RTN"
mnemonic rows.PushAddress = codes "PUSH ADR"
mnemonic rows.PopAddress = codes "POP ADR"
mnemonic rows.GoToKey = codes "GOTO KEY"
mnemonic rows.SelectRegister = codes "RAM SLCT"
mnemonic rows.WriteData = codes "WRIT DATA"
mnemonic rows.FetchWord = codes "FETCH S&X"
mnemonic rows.Or = codes "C=C OR A"
mnemonic rows.And = codes "C=C AND A"
mnemonic rows.SelectPeripheral = codes "PRPH SLCT"
mnemonic (rows.Transfer transfer) = transfer_text transfer

-- The operand of a row: for CON, the word's own number. A single word has no operand.
abbrev pub operand : Row → Option (List ℕ)
operand (rows.Arithmetic operation field) = Some (field_text field)
operand (rows.LongJump low_byte) = Some (hexadecimal_text 3 (number_of (rows.LongJump low_byte)))
operand (rows.ShortJump condition displacement) = Some (displacement_text displacement)
operand (rows.ClearStatus bit) = Some (decimal bit)
operand (rows.SetStatus bit) = Some (decimal bit)
operand (rows.TestStatus bit) = Some (decimal bit)
operand (rows.TestPointer place) = Some (decimal place)
operand (rows.SetPointer place) = Some (decimal place)
operand (rows.RotateRight digits) = Some (decimal digits)
operand (rows.LoadDigit digit) = Some (decimal digit)
operand (rows.Write register) = Some (decimal register)
operand (rows.Read register) = Some (decimal register)
operand (rows.Constant number) = Some (hexadecimal_text 3 number)
operand rows.LoadImmediate = Some (hexadecimal_text 3 (number_of rows.LoadImmediate))
operand single = None

-- An operand after its mnemonic, separated from it by a space.
abbrev pub behind : Option (List ℕ) → List ℕ
behind None = []
behind (Some text) = codes " " ++ text

-- The text of a row of one word.
abbrev pub row_text : Row → List ℕ
row_text row = mnemonic row ++ behind (operand row)

-- The text of a jump by address, which has two words.
abbrev pub address_text : ℕ → SecondWord → List ℕ
address_text low_byte second =
    long_jump_text second.condition second.kind ++ codes " "
    ++ hexadecimal_text 4 (second.high_byte * 256 + low_byte)

-- The text of a row and the word after it, which is used only if the instruction has two words.
abbrev pub instruction_text : Row → ℕ → List ℕ
instruction_text (rows.LongJump low_byte) second = address_text low_byte (second_of second)
instruction_text rows.LoadImmediate second = codes "LDI " ++ hexadecimal_text 3 second
instruction_text row second = row_text row
