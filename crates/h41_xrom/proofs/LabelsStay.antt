-- The label cache stays right if memory keeps its dirty flag.
use Rattle.std.proofs.Common.{◌≡◌, List, refl, subst, sym}
use Rattle.std.specs.Prelude.{IsFalse}
use Rattle.h41_focal.specs.LabelLaws.{KeepingStaysRight}
use Rattle.h41_positions.specs.LabelledMachine.{AreRight, LabelledFocal, LabelledMachine, labelled_with}
use Rattle.h41_labels.specs.KeptAnswers.{IsRight}
use Rattle.h41_labels.specs.declared.search.KeptAnswer.{KeptAnswer}
use Rattle.h41_ram.specs.RamState.{KeepsMark, RamState}

-- Only memory changes.
pub right_over : KeepingStaysRight → (old from : LabelledMachine) (ram : RamState) → from ≡ old → KeepsMark from.ram ram → AreRight old
    → AreRight (labelled_with ram from.focal)
right_over keeping old from ram is mark right =
    keeping from (labelled_with ram from.focal) (record { mark = mark; labels = refl })
    (subst (λ (machine : LabelledMachine). AreRight machine) (sym is) right)

-- The labels are the same.
pub right_with : KeepingStaysRight → (old from : LabelledMachine) (ram : RamState) (labels : List KeptAnswer) → from ≡ old
    → KeepsMark from.ram ram → labels ≡ from.focal.labels → AreRight old → IsFalse ram.touched → IsRight labels ram.registers
right_with keeping old from ram labels is mark same right =
    keeping from (record { ram = ram; focal = record from.focal { labels = labels } }) (record { mark = mark; labels = same })
    (subst (λ (machine : LabelledMachine). AreRight machine) (sym is) right)

-- The rest of the state that lines work on changes, with the same labels.
pub right_beside : KeepingStaysRight → (old from : LabelledMachine) (ram : RamState) (focal : LabelledFocal) → from ≡ old
    → KeepsMark from.ram ram → focal.labels ≡ from.focal.labels → AreRight old → AreRight (labelled_with ram focal)
right_beside keeping old from ram focal is mark same right =
    keeping from (labelled_with ram focal) (record { mark = mark; labels = same })
    (subst (λ (machine : LabelledMachine). AreRight machine) (sym is) right)
