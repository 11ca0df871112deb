-- Laws of cached answers, for a machine.
use Rattle.std.specs.Prelude.{Option}
use Rattle.h41_positions.specs.LabelledMachine.{AreRight, Keeps, LabelledMachine}
use Rattle.h41_labels.specs.KeptAnswers.{IsRight, KeepsSearch}
use Rattle.h41_labels.specs.declared.search.Search.{Search}
use Rattle.h41_ram.specs.RamState.{KeepsMark}

-- The condition for using cached answers remains true after a step that searches no label, never
-- clears the dirty flag, and sets it if it changes programs.
abbrev pub KeepingStaysRight : Type 0
KeepingStaysRight = (old new : LabelledMachine) → Keeps old new → AreRight old → AreRight new

-- The condition is also true after a line that made at most one search, if the answers were right
-- when it began.
abbrev pub SearchingStaysRight : Type 0
SearchingStaysRight =
    (old new : LabelledMachine) (search : Option Search)
    → IsRight old.focal.labels old.ram.registers
    → KeepsSearch old.ram.registers search old.focal.labels new.focal.labels
    → KeepsMark old.ram new.ram → AreRight new
