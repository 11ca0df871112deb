-- The state of a machine that contracts describe: besides memory and the state of programs, there
-- are the dirty flag and the label cache. The definitions of lines know neither, because the result
-- of a line does not depend on them: it finds what the search finds.
use Rattle.std.specs.Prelude.{◌≡◌, ℕ, false, List, [], IsFalse, if◌then◌else◌, Option, Some, None}
use Rattle.h41_positions.specs.FocalState.{FocalState, Machine, machine_with}
use Rattle.h41_labels.specs.KeptAnswers.{IsRight}
use Rattle.h41_labels.specs.declared.search.KeptAnswer.{KeptAnswer}
use Rattle.h41_labels.specs.declared.search.Search.{Search}
use Rattle.h41_labels.specs.declared.search.Search.TheVariants.{Local}
use Rattle.h41_positions.specs.declared.position.Position.{Position}
use Rattle.h41_positions.specs.declared.position.Position.TheVariants.{Memory, Page}
use Rattle.h41_ram.specs.RamState.{KeepsMark, RamState}

-- The state of programs besides memory, and the label cache.
pub record LabelledFocal : Type 0 where
  pub state : FocalState
  pub labels : List KeptAnswer

-- The whole machine, with memory and its dirty flag.
pub record LabelledMachine : Type 0 where
  pub ram : RamState
  pub focal : LabelledFocal

-- Memory and state put together.
abbrev pub labelled_with : RamState → LabelledFocal → LabelledMachine
labelled_with ram focal = record { ram = ram; focal = focal }

-- The machine that the definitions of lines use.
abbrev pub machine_of : LabelledMachine → Machine
machine_of labelled = machine_with labelled.ram.registers labelled.focal.state

-- The condition for using cached answers: if the dirty flag is clear, each cached answer is what
-- its search finds in memory.
abbrev pub AreRight : LabelledMachine → Type 0
AreRight labelled =
    IsFalse labelled.ram.touched → IsRight labelled.focal.labels labelled.ram.registers

-- At the beginning of a line the dirty flag is cleared.
abbrev pub begun_ram : RamState → RamState
begun_ram ram = record ram { touched = false }

-- At the beginning of a line the label cache is emptied if the dirty flag is set, because programs
-- may have changed.
abbrev pub begun_labels : LabelledMachine → List KeptAnswer
begun_labels labelled = if labelled.ram.touched then [] else labelled.focal.labels

-- The machine at the beginning of a line.
abbrev pub with_line_begun : LabelledMachine → LabelledMachine
with_line_begun labelled = record {
  ram = begun_ram labelled.ram;
  focal = record labelled.focal { labels = begun_labels labelled };
}

-- A step that searches no label keeps the condition: a dirty flag that is set remains set, it is
-- set if programs change, and the cache is unchanged.
pub record Keeps (old new : LabelledMachine) : Type 0 where
  pub mark : KeepsMark old.ram new.ram
  pub labels : new.focal.labels ≡ old.focal.labels

-- The search for LBL n from a position. Searches in pages are not cached.
abbrev pub local_search : Position → ℕ → Option Search
local_search (Memory byte) label = Some (Local byte label)
local_search (Page address) label = None
