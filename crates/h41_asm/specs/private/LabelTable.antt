-- The code's table of labels: the addresses in it, what a name or a line adds to it, and the errors
-- and words of lines and statements by it. It only connects the code with the definitions of
-- assembly.
use Rattle.std.specs.Prelude.{◌≡◌, Vec, ℕ, ◌+◌, ◌≤◌, ℤ, Bool, false, List, [], ◌∷◌, ◌++◌, IsOk}
use Rattle.std.specs.Prelude.{IfSome, Option, Some, None, Result, Ok, Err, bytes_eq, if◌then◌else◌}
use Rattle.std.specs.Prelude.{is_some}
use Rattle.std.specs.Borrow.{Bor}
use Rattle.std.specs.Global.{Global}
use Rattle.indexmap.specs.IndexMap.{IndexMap, get_by}
use Rattle.h41_words.specs.declared.rows.Condition.{Condition}
use Rattle.h41_words.specs.declared.rows.Row.TheVariants.{ShortJump}
use Rattle.h41_words.specs.WordTable.{number_of}
use Rattle.h41_asm.specs.declared.fault.SourceFault.{SourceFault}
use Rattle.h41_asm.specs.declared.fault.SourceFault.TheVariants.{TooFar}
use Rattle.h41_asm.specs.declared.source.SourceLine as code_lines
use Rattle.h41_asm.specs.declared.statement.Statement as code
use Rattle.h41_asm.specs.Assembly.{address_count}
use Rattle.h41_asm.specs.private.CodeStatements.{in_code, in_label, in_line}
use Rattle.h41_asm.specs.Faults.{FaultOnLine, first_fault, label_address, line_length}
use Rattle.h41_asm.specs.Faults.{numbered_lines, own_fault, own_fault_at, reference_fault}
use Rattle.h41_asm.specs.Placing.{Labels, StatementSpells}
use Rattle.h41_asm.specs.SourceLines.{SourceLine, source_lines}
use Rattle.h41_asm.specs.Statements.{Statement, is_in_reach, reading_of}

-- The code's table of labels.
abbrev pub Table : Type 0 → Type 0
Table S = IndexMap (Bor (List ℕ)) ℕ S

-- The addresses in a table of labels.
abbrev pub labels_in : {S : Type 0} → Table S → Labels
labels_in table name = get_by (λ key. bytes_eq name key.now) table

-- A statement adds its words to those before it.
pub record SpellsNext (labels : Labels) (address : ℕ)
    (statement : Statement) (before after : List ℕ) : Type 0 where
  pub own : List ℕ
  pub added : after ≡ before ++ own
  pub spelled : StatementSpells labels address statement own

-- A statement of the code adds its words, by a table of labels.
abbrev pub AddsOwn : {S : Type 0} → Table S → ℕ → code.Statement → Vec ℕ Global → Vec ℕ Global
    → Type 0
AddsOwn table address statement before after =
    SpellsNext (labels_in table) address (in_code statement) before.items after.items

-- The error of the reference of a statement, by a table of labels.
abbrev pub fault_by : {S : Type 0} → Table S → ℕ → code.Statement → Option SourceFault
fault_by table address statement = reference_fault (labels_in table) address (in_code statement)

-- The word of a short jump, or TooFar (34) if the displacement is out of range.
abbrev pub jump_word : Condition → ℤ → Result ℕ SourceFault
jump_word condition displacement =
    if is_in_reach displacement then Ok (number_of (ShortJump condition displacement))
    else Err TooFar

-- The lines from an address on can be read and placed, and each label has the address of its line.
abbrev pub IsReady : Labels → ℕ → List SourceLine → Type 0
IsReady labels address [] = Unit {0}
IsReady labels address (line ∷ rest) =
    IsOk (reading_of line.code)
    × (address + line_length line ≤ address_count)
    × IfSome line.label (λ name. labels name ≡ Some address)
    × IsReady labels (address + line_length line) rest

-- The first error of the lines of a source that does not depend on the addresses of labels.
abbrev pub first_own_fault : ℕ → List ℕ → FaultOnLine
first_own_fault origin source =
    first_fault own_fault_at (numbered_lines origin (source_lines source))

-- Whether the label of a line already has an address.
abbrev pub is_held : Labels → Option (List ℕ) → Bool
is_held labels None = false
is_held labels (Some name) = is_some (labels name)

-- Whether the label of a line of the code already has an address in a table.
abbrev pub is_held_in : {S : Type 0} → Table S → Option (Bor (List ℕ)) → Bool
is_held_in table label = is_held (labels_in table) (in_label label)

-- The error of a line, if the table has the labels of the lines before it.
abbrev pub line_fault_in : {S : Type 0} → Table S → ℕ → code_lines.SourceLine → Option SourceFault
line_fault_in table address line = own_fault (is_held_in table line.label) address (in_line line)

-- The addresses after one more name has one.
abbrev pub with_address : Labels → List ℕ → ℕ → Labels
with_address labels own address name = if bytes_eq own name then Some address else labels name

-- The addresses after the label of a line, if it has one, has one.
abbrev pub with_label : Labels → Option (List ℕ) → ℕ → Labels
with_label labels None address = labels
with_label labels (Some own) address = with_address labels own address

-- A table after a name was added with an address.
abbrev pub AddsName : {S : Type 0} → Table S → Table S → ℕ → List ℕ → Type 0
AddsName old new address own =
    (name : List ℕ) → labels_in new name ≡ with_address (labels_in old) own address name

-- A table after the label of a line was added with an address.
abbrev pub AddsLabel : {S : Type 0} → Table S → Table S → ℕ → code_lines.SourceLine → Type 0
AddsLabel old new address line =
    (name : List ℕ)
    → labels_in new name ≡ with_label (labels_in old) (in_line line).label address name

-- A table contains exactly the labels of a source, with their addresses.
abbrev pub HoldsLabels : {S : Type 0} → Table S → ℕ → List ℕ → Type 0
HoldsLabels table origin source =
    (name : List ℕ)
    → labels_in table name ≡ label_address (numbered_lines origin (source_lines source)) name
