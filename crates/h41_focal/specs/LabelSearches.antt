-- The search for a label that a line makes, and the label cache after it.
use Rattle.std.specs.Prelude.{◌≡◌, List, MatchBool, None, Option, Some, if◌then◌else◌}
use Rattle.std.specs.Prelude.{Result, Ok, Err}
use Rattle.h41_codes.specs.declared.line.Line.{Line}
use Rattle.h41_codes.specs.declared.line.Line.TheVariants as lines
use Rattle.h41_positions.specs.LabelledMachine.{LabelledMachine, begun_labels, local_search}
use Rattle.h41_positions.specs.LabelledMachine.{machine_of}
use Rattle.h41_focal.specs.LineStep.{Stands}
use Rattle.h41_positions.specs.FocalState.{Machine}
use Rattle.h41_focal.specs.declared.refusal.FocalRefusal.{FocalRefusal}
use Rattle.h41_labels.specs.KeptAnswers.{KeepsSearch}
use Rattle.h41_labels.specs.declared.search.KeptAnswer.{KeptAnswer}
use Rattle.h41_labels.specs.declared.search.Search.{Search}
use Rattle.h41_labels.specs.declared.search.Search.TheVariants.{Global}
use Rattle.h41_pages.specs.PageMap.{PageMap}
use Rattle.h41_positions.specs.declared.position.Position.{Position}
use Rattle.h41_ram.specs.RegisterMap.{RegisterMap, is_sound}
use Rattle.h41_rows.specs.Operands.{Count, Meant, Name, meant_of}
use Rattle.h41_rows.specs.Profile.{is_left_out}
use Rattle.h41_rows.specs.declared.fault.LineFault.{LineFault}

-- The search for the content of a register: a label's number, or a name. After an error there is
-- none.
abbrev pub search_for : Position → Result Meant LineFault → Option Search
search_for from (Ok (Count label)) = local_search from label
search_for from (Ok (Name name)) = Some (Global name)
search_for from other = None

-- The search that a line makes, given the position from which local labels are searched. Only GTO
-- and XEQ make one.
abbrev pub search_by : RegisterMap → Position → Line → Option Search
search_by memory from (lines.ShortGoTo label distance) = local_search from label
search_by memory from (lines.BranchTo branch distance far label) = local_search from label
search_by memory from (lines.Named function name) = Some (Global name)
search_by memory from (lines.BranchIndirect branch register) =
    search_for from (meant_of memory (lines.BranchIndirect branch register))
search_by memory from line = None

-- A line that is not supported makes no search.
abbrev pub search_of : RegisterMap → Position → Line → Option Search
search_of memory from line = if is_left_out line then None else search_by memory from line

-- The label cache after a typed line.
abbrev pub KeepsTyped : Line → Machine → (before after : List KeptAnswer) → Type 0
KeepsTyped line machine before after =
    KeepsSearch machine.memory (search_of machine.memory machine.focal.position line) before after

-- The label cache after a stepped line, whose search begins at the next line.
abbrev pub KeepsStepped : Line → Position → Machine → (before after : List KeptAnswer) → Type 0
KeepsStepped line next machine before after =
    KeepsSearch machine.memory (search_of machine.memory next line) before after

-- If no line can be read at the position, there is no search.
abbrev pub KeepsPlaced : Machine → Result (Line × Position) FocalRefusal
    → (before after : List KeptAnswer) → Type 0
KeepsPlaced machine (Ok standing) before after =
    KeepsStepped standing.0 standing.1 machine before after
KeepsPlaced machine (Err refusal) before after = after ≡ before

-- The label cache after the line at the position. What the line calls outside program memory makes
-- no search.
abbrev pub StepKeeps : PageMap → (old new : LabelledMachine) → Type 0
StepKeeps pages old new =
    (standing : Result (Line × Position) FocalRefusal)
    × Stands pages (machine_of old) standing
    × KeepsPlaced (machine_of old) standing (begun_labels old) new.focal.labels

-- The label cache after a typed line. If memory is not sound, there is no search.
abbrev pub TypingKeeps : Line → (old new : LabelledMachine) → Type 0
TypingKeeps line old new =
    MatchBool (is_sound old.ram.registers)
    (KeepsTyped line (machine_of old) (begun_labels old) new.focal.labels)
    (new.focal.labels ≡ begun_labels old)
