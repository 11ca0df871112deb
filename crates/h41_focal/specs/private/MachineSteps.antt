-- What a step of a machine promises.
use Rattle.std.specs.Prelude.{◌≡◌, false, Result, OnErr}
use Rattle.h41_focal.specs.MachineCalls.{Steps}
use Rattle.h41_focal.specs.LabelSearches.{StepKeeps}
use Rattle.h41_positions.specs.LabelledMachine.{AreRight, LabelledMachine, begun_ram, machine_of}
use Rattle.h41_focal.specs.declared.outcome.LineOutcome.{LineOutcome}
use Rattle.h41_focal.specs.declared.refusal.FocalRefusal.{FocalRefusal}
use Rattle.h41_pages.specs.PageMap.{PageMap}
use Rattle.h41_ram.specs.RamState.{KeepsMark}

-- The line at the position is executed.
pub record StepsMachine (pages : PageMap) (old new : LabelledMachine)
    (result : Result LineOutcome FocalRefusal)
    : Type 0 where
  pub line : Steps pages (machine_of old) (machine_of new) result
  pub unchanged : OnErr result (machine_of new ≡ machine_of old)
  pub kept : StepKeeps pages old new
  pub mark : KeepsMark (begun_ram old.ram) new.ram
  pub clear : new.ram.touched ≡ false
  pub right : AreRight new
