-- Cached answers that were right are right after a line.
use Rattle.std.proofs.Common.{Bool, true, false, rules, sym, subst}
use Rattle.std.specs.Prelude.{IsFalse, IsTrue, List, Option}
use Rattle.h41_positions.specs.LabelledMachine.{AreRight, Keeps, LabelledMachine}
use Rattle.h41_labels.specs.KeptAnswers.{IsRight, KeepsSearch}
use Rattle.h41_labels.specs.KeptLaws.{RightnessDepends, SearchesStayRight}
use Rattle.h41_labels.specs.declared.search.KeptAnswer.{KeptAnswer}
use Rattle.h41_labels.specs.declared.search.Search.{Search}
use Rattle.h41_ram.specs.RamState.{KeepsMark}

-- If the dirty flag is clear after a step that does not clear it, it was clear before.
was_clear : (old new : Bool) → (IsTrue old → IsTrue new) → IsFalse new → IsFalse old
was_clear false new kept clear = search rules
was_clear true new kept clear = search rules

module _ (depends : RightnessDepends) where
  pub keeping_stays : (old new : LabelledMachine) → Keeps old new → AreRight old → AreRight new
  keeping_stays old new keeps right clear =
      subst (λ (labels : List KeptAnswer). IsRight labels new.ram.registers) (sym keeps.labels)
      (depends old.ram.registers new.ram.registers old.focal.labels (keeps.mark.clear clear)
      (right (was_clear old.ram.touched new.ram.touched keeps.mark.set clear)))

  pub searching_stays : SearchesStayRight → (old new : LabelledMachine) (search : Option Search)
      → IsRight old.focal.labels old.ram.registers
      → KeepsSearch old.ram.registers search old.focal.labels new.focal.labels
      → KeepsMark old.ram new.ram → AreRight new
  searching_stays stay old new search right kept mark clear =
      depends old.ram.registers new.ram.registers new.focal.labels (mark.clear clear)
      (stay old.ram.registers search old.focal.labels new.focal.labels kept right)
