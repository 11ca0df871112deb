-- The byte grammar: which bytes spell which line, in the order of HP's byte table.
use Rattle.std.specs.Prelude.{◌≡◌, ℕ, ◌+◌, ◌*◌, ◌/◌, ◌%◌, ◌<◌, ◌≤◌, Bool, List, [], ◌∷◌, map}
use Rattle.std.specs.Prelude.{length, take, drop, if◌then◌else◌, ◌++◌, ◌↔◌, EachIndex, slice_index}
use Rattle.std.specs.Prelude.{Result, Ok}
use Rattle.h41_codes.specs.declared.functions.Branch.{Branch}
use Rattle.h41_codes.specs.declared.functions.Branch.TheVariants.{GoTo, Execute}
use Rattle.h41_codes.specs.declared.line.Operand.{Operand}
use Rattle.h41_codes.specs.declared.line.Operand.TheVariants.{Direct, Indirect}
use Rattle.h41_codes.specs.declared.line.Line.{Line}
use Rattle.h41_codes.specs.declared.line.Line.TheVariants.{Null, LocalLabel, Number, Named}
use Rattle.h41_codes.specs.declared.line.Line.TheVariants.{Register, Plain, WithOperand, Module}
use Rattle.h41_codes.specs.declared.line.Line.TheVariants.{BranchIndirect, ShortGoTo, GlobalLabel}
use Rattle.h41_codes.specs.declared.line.Line.TheVariants.{End, FinalEnd, BranchTo, Text}
use Rattle.h41_codes.specs.Codes.{function_code, parameter_function_code, register_function_code}
use Rattle.h41_codes.specs.Codes.{name_function_code, character_code, branch_code}
use Rattle.h41_codes.specs.Counts.{parameter_count, short_label_count, short_register_count}
use Rattle.h41_codes.specs.Counts.{module_count, entry_count, distance_count, link_count}
use Rattle.h41_codes.specs.Counts.{end_mark_count, final_mark_count, text_most, name_most}
use Rattle.h41_codes.specs.Counts.{number_most}

-- A text is a byte F0 to FF, whose low four bits count the characters, and these.
abbrev pub text_bytes : List ℕ → List ℕ
text_bytes characters = (0xF0 + length characters) ∷ characters

-- The byte of an operand is the parameter; bit 7 is set if it is indirect.
abbrev pub operand_byte : Operand → ℕ
operand_byte (Direct parameter) = parameter
operand_byte (Indirect parameter) = 0x80 + parameter

-- The byte of the register that contains a label; bit 7 is set for XEQ.
abbrev pub indirect_byte : Branch → ℕ → ℕ
indirect_byte GoTo register = register
indirect_byte Execute register = 0x80 + register

-- The first byte of a global label, an END or .END. is C0 to CD, with the high bits of the link.
abbrev pub link_high : ℕ → ℕ
link_high link = 0xC0 + link / 256

-- The second byte of a global label, an END or .END. is the low byte of the link.
abbrev pub link_low : ℕ → ℕ
link_low link = link % 256

-- The status bits of an END are bits 7, 6 and 4 to 0 of its last byte, because bit 5 distinguishes
-- .END. from END.
abbrev pub mark_bits : ℕ → ℕ
mark_bits marks = marks / 32 * 64 + marks % 32

-- The last byte of a branch is the label; bit 7 is set if the branch leads backwards.
abbrev pub label_byte : Bool → ℕ → ℕ
label_byte backwards label = if backwards then 0x80 + label else label

-- The bytes of a line.
abbrev pub spelling : Line → List ℕ
-- 00: the null
spelling Null = 0x00 ∷ []
-- 01 to 0F: LBL 00 to LBL 14
spelling (LocalLabel label) = (0x01 + label) ∷ []
-- 1 to 16 bytes 10 to 1C: a number
spelling (Number characters) = map character_code characters
-- 1D, 1E or 1F, and a text: GTO, XEQ or W with a name
spelling (Named function name) = name_function_code function ∷ text_bytes name
-- 20 to 2F: RCL 00 to RCL 15; 30 to 3F: STO 00 to STO 15
spelling (Register function register) = (register_function_code function + register) ∷ []
-- 40 to 8F: functions of one byte
spelling (Plain function) = function_code function ∷ []
-- 90 to 9F, A8 to AD, CE and CF, and an operand: functions with a parameter
spelling (WithOperand function operand) =
    parameter_function_code function ∷ operand_byte operand ∷ []
-- A0 to A7 and a byte: XROM, with five bits for the module and six for its function
spelling (Module number entry) = (0xA0 + number / 4) ∷ (number % 4 * 64 + entry) ∷ []
-- AE and a register: GTO IND, or XEQ IND if bit 7 is set
spelling (BranchIndirect branch register) = 0xAE ∷ indirect_byte branch register ∷ []
-- B1 to BF and a byte for the distance: GTO 00 to GTO 14
spelling (ShortGoTo label distance) = (0xB1 + label) ∷ distance ∷ []
-- C0 to CD with the link, and a byte F1 to FF: LBL with a name. The third byte is F0 plus one more
-- than the number of characters; then follow the key and the name.
spelling (GlobalLabel link key name) =
    link_high link ∷ link_low link ∷ (0xF1 + length name) ∷ key ∷ name
-- C0 to CD with the link, and a byte below F0: END, or .END. if bit 5 is set
spelling (End link marks) = link_high link ∷ link_low link ∷ mark_bits marks ∷ []
spelling (FinalEnd link marks) = link_high link ∷ link_low link ∷ (0x20 + mark_bits marks) ∷ []
-- any byte of row D or E of the byte table with the distance, and the label: GTO and XEQ
spelling (BranchTo branch distance backwards label) =
    (branch_code branch + distance / 256) ∷ (distance % 256) ∷ label_byte backwards label ∷ []
-- F0 to FF and the characters: a text
spelling (Text characters) = text_bytes characters

-- Each number of a list is a byte.
abbrev pub IsBytes : List ℕ → Type 0
IsBytes characters = EachIndex characters (λ index. slice_index characters index < 256)

-- A text is a list of bytes that is not too long.
pub record IsText (most : ℕ) (characters : List ℕ) : Type 0 where
  pub fits : length characters ≤ most
  pub bytes : IsBytes characters

-- An operand has a parameter in its range.
abbrev pub IsOperand : Operand → Type 0
IsOperand (Direct parameter) = parameter < parameter_count
IsOperand (Indirect parameter) = parameter < parameter_count

-- The parts of a line are in their ranges: numbers are below their counts, and texts and numbers
-- are not too long.
abbrev pub IsLine : Line → Type 0
IsLine Null = Unit {0}
IsLine (LocalLabel label) = label < short_label_count
IsLine (Number characters) = (1 ≤ length characters) × (length characters ≤ number_most)
IsLine (Named function name) = IsText text_most name
IsLine (Register function register) = register < short_register_count
IsLine (Plain function) = Unit {0}
IsLine (WithOperand function operand) = IsOperand operand
IsLine (Module number entry) = (number < module_count) × (entry < entry_count)
IsLine (BranchIndirect branch register) = register < parameter_count
IsLine (ShortGoTo label distance) = (label < short_label_count) × (distance < 256)
IsLine (GlobalLabel link key name) = (link < link_count) × (key < 256) × IsText name_most name
IsLine (End link marks) = (link < link_count) × (marks < end_mark_count)
IsLine (FinalEnd link marks) = (link < link_count) × (marks < final_mark_count)
IsLine (BranchTo branch distance backwards label) =
    (distance < distance_count) × (label < parameter_count)
IsLine (Text characters) = IsText text_most characters

-- Bytes spell a line if its parts are in their ranges and they are its bytes.
pub record Spells (bytes : List ℕ) (line : Line) : Type 0 where
  pub valid : IsLine line
  pub same : bytes ≡ spelling line

-- A number can continue in these bytes if the first is 10 to 1C.
abbrev pub GoesOn : List ℕ → Type 0
GoesOn [] = ⊥
GoesOn (byte ∷ bytes) = (0x10 ≤ byte) × (byte ≤ 0x1C)

-- A line that is followed by these bytes is complete: if a number could continue in them, it
-- already has 16 characters.
abbrev pub IsComplete : Line → List ℕ → Type 0
IsComplete (Number characters) rest = GoesOn rest → length characters ≡ number_most
IsComplete line rest = Unit {0}

-- Bytes begin with a line of this many bytes, which is complete.
pub record Begins (bytes : List ℕ) (line : Line) (count : ℕ) : Type 0 where
  pub inside : count ≤ length bytes
  pub spells : Spells (take count bytes) line
  pub whole : IsComplete line (drop count bytes)

-- Bytes begin with no line, however many of them are taken.
abbrev pub BeginsNoLine : List ℕ → Type 0
BeginsNoLine bytes = (line : Line) (count : ℕ) → Spells (take count bytes) line → ⊥

-- A result is a line and a count if and only if the bytes begin with that line, of this many bytes.
abbrev pub AnswersLine : {E : Type 0} → Result (Line × ℕ) E → List ℕ → Type 0
AnswersLine result bytes =
    (line : Line) (count : ℕ) → (result ≡ Ok (line, count)) ↔ Begins bytes line count

-- Bytes after the bytes of a line are written over the first of them.
abbrev pub written_over : Line → List ℕ → List ℕ
written_over line bytes = spelling line ++ drop (length (spelling line)) bytes
