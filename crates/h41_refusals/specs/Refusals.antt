-- The refusals, each with its number, its name and the address or the line number that it prints.
-- Numbers, names and form are this project's own.
use Rattle.std.specs.Prelude.{ℕ, List, [], ◌++◌, Option, Some, None, codes}
use Rattle.std.specs.Fmt.{decimal}
use Rattle.h41_digits.specs.Register.{hexadecimal_text}
use Rattle.h41_asm.specs.declared.fault.SourceFault as source
use Rattle.h41_asm.specs.declared.fault.SourceFault.TheVariants.{BadLine, BadOperand, LabelTwice}
use Rattle.h41_asm.specs.declared.fault.SourceFault.TheVariants.{NoLabel, TooFar, TooLong}
use Rattle.h41_commands.specs.declared.refusal.LineRefusal.{LineRefusal}
use Rattle.h41_commands.specs.declared.refusal.LineRefusal.TheVariants.{BadImage, Source, BadText}
use Rattle.h41_commands.specs.declared.refusal.LineRefusal.TheVariants.{BadCommand, BadNumber}
use Rattle.h41_commands.specs.declared.refusal.LineRefusal.TheVariants.{NoEnd, LineTooLong}
use Rattle.h41_nut.specs.declared.refusal.WordRefusal as word
use Rattle.h41_nut.specs.declared.refusal.WordRefusal.TheVariants.{UndefinedWord, WordNotInProfile}
use Rattle.h41_nut.specs.declared.refusal.WordRefusal.TheVariants.{SystemRom, EmptyPage}
use Rattle.h41_nut.specs.declared.refusal.WordRefusal.TheVariants.{PeripheralNotHeld, Asleep}
use Rattle.h41_nut.specs.declared.refusal.WordRefusal.TheVariants.{ReadOnly}
use Rattle.h41_program.specs.declared.refusal.ProgramRefusal as program
use Rattle.h41_program.specs.declared.refusal.ProgramRefusal.TheVariants.{BrokenProgram, NoRoom}
use Rattle.h41_program.specs.declared.refusal.ProgramRefusal.TheVariants.{SizeTooLarge}
use Rattle.h41_xrom.specs.declared.refusal.CalculatorRefusal.{CalculatorRefusal}
use Rattle.h41_xrom.specs.declared.refusal.CalculatorRefusal.TheVariants.{Word, NotInProfile}
use Rattle.h41_xrom.specs.declared.refusal.CalculatorRefusal.TheVariants.{Program, MemoryLost}
use Rattle.h41_xrom.specs.declared.refusal.CalculatorRefusal.TheVariants.{KeyNotHeld, Busy}
use Rattle.h41_refusals.specs.declared.refusal.line.Detail.{Detail}
use Rattle.h41_refusals.specs.declared.refusal.line.Detail.TheVariants as details
use Rattle.h41_refusals.specs.declared.refusal.Refusal.{Refusal}
use Rattle.h41_refusals.specs.declared.refusal.Refusal.TheVariants.{NoSuchPage, Occupied}
use Rattle.h41_refusals.specs.declared.refusal.Refusal.TheVariants.{NotPlugged, Calculator, Line}
use Rattle.h41_refusals.specs.declared.refusal.Refusal.TheVariants.{BreakFull, NoBreak, OutOfMemory}
use Rattle.h41_refusals.specs.declared.refusal.Refusal.TheVariants.{ReadFault, WriteFault}
use Rattle.h41_refusals.specs.declared.fault.Fault.{Fault}
use Rattle.h41_refusals.specs.declared.fault.Fault.TheVariants as faults

-- The number and the name of a refused word.
abbrev pub word_name : word.WordRefusal → List ℕ
word_name (UndefinedWord address) = codes "06 UndefinedWord"
word_name (WordNotInProfile address) = codes "07 WordNotInProfile"
word_name (SystemRom address) = codes "08 SystemRom"
word_name (EmptyPage address) = codes "09 EmptyPage"
word_name (PeripheralNotHeld address) = codes "10 PeripheralNotHeld"
word_name (Asleep address) = codes "11 Asleep"
word_name (ReadOnly address) = codes "12 ReadOnly"

-- Those of a refusal of program memory.
abbrev pub program_name : program.ProgramRefusal → List ℕ
program_name BrokenProgram = codes "14 BrokenProgram"
program_name NoRoom = codes "16 NoRoom"
program_name SizeTooLarge = codes "17 SizeTooLarge"

-- Those of a refusal of the calculator.
abbrev pub calculator_name : CalculatorRefusal → List ℕ
calculator_name (Word refusal) = word_name refusal
calculator_name NotInProfile = codes "13 NotInProfile"
calculator_name (Program refusal) = program_name refusal
calculator_name MemoryLost = codes "15 MemoryLost"
calculator_name KeyNotHeld = codes "18 KeyNotHeld"
calculator_name Busy = codes "24 Busy"

-- Those of an error of a source.
abbrev pub source_name : source.SourceFault → List ℕ
source_name BadLine = codes "30 BadLine"
source_name BadOperand = codes "31 BadOperand"
source_name LabelTwice = codes "32 LabelTwice"
source_name NoLabel = codes "33 NoLabel"
source_name TooFar = codes "34 TooFar"
source_name TooLong = codes "35 TooLong"

-- Those of refused lines.
abbrev pub line_name : LineRefusal → List ℕ
line_name BadImage = codes "04 BadImage"
line_name (Source fault line) = source_name fault
line_name (BadText line) = codes "41 BadText"
line_name BadCommand = codes "50 BadCommand"
line_name BadNumber = codes "51 BadNumber"
line_name NoEnd = codes "52 NoEnd"
line_name LineTooLong = codes "53 LineTooLong"

-- Those of each refusal.
abbrev pub number_and_name : Refusal → List ℕ
number_and_name NoSuchPage = codes "01 NoSuchPage"
number_and_name Occupied = codes "02 Occupied"
number_and_name NotPlugged = codes "03 NotPlugged"
number_and_name (Calculator refusal) = calculator_name refusal
number_and_name (Line refusal) = line_name refusal
number_and_name BreakFull = codes "19 BreakFull"
number_and_name NoBreak = codes "20 NoBreak"
number_and_name OutOfMemory = codes "21 OutOfMemory"
number_and_name ReadFault = codes "22 ReadFault"
number_and_name WriteFault = codes "23 WriteFault"

-- The address that the refusal of a word prints.
abbrev pub word_detail : word.WordRefusal → ℕ
word_detail (UndefinedWord address) = address
word_detail (WordNotInProfile address) = address
word_detail (SystemRom address) = address
word_detail (EmptyPage address) = address
word_detail (PeripheralNotHeld address) = address
word_detail (Asleep address) = address
word_detail (ReadOnly address) = address

-- The detail that a refusal of the calculator prints: the address of a word, otherwise none.
abbrev pub calculator_detail : CalculatorRefusal → Option Detail
calculator_detail (Word refusal) = Some (details.Address (word_detail refusal))
calculator_detail refusal = None

-- The detail that refused lines print: the line number of a source or a text, otherwise none.
abbrev pub line_detail : LineRefusal → Option Detail
line_detail (Source fault line) = Some (details.Line line)
line_detail (BadText line) = Some (details.Line line)
line_detail refusal = None

-- The detail that a refusal prints.
abbrev pub detail : Refusal → Option Detail
detail (Calculator refusal) = calculator_detail refusal
detail (Line refusal) = line_detail refusal
detail refusal = None

-- A space, and the address in four hexadecimal digits, or the line number.
abbrev pub detail_text : Option Detail → List ℕ
detail_text None = []
detail_text (Some (details.Address address)) = codes " " ++ hexadecimal_text 4 address
detail_text (Some (details.Line line)) = codes " " ++ decimal line

-- A refusal without its detail, from its number and name.
abbrev pub heading_of : List ℕ → List ℕ
heading_of name = codes "! " ++ name

-- A refusal without its detail.
abbrev pub heading : Refusal → List ℕ
heading refusal = heading_of (number_and_name refusal)

-- A refusal with its detail.
abbrev pub refusal_text : Refusal → List ℕ
refusal_text refusal = heading refusal ++ detail_text (detail refusal)

-- The line of a refusal.
abbrev pub refusal_line : Refusal → List ℕ
refusal_line refusal = refusal_text refusal ++ codes "\n"

-- The refusal that reports an error of a deck.
abbrev pub of_fault : Fault → Refusal
of_fault faults.OutOfMemory = OutOfMemory
of_fault faults.ReadFault = ReadFault
of_fault faults.WriteFault = WriteFault
