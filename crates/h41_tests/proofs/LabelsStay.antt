-- The label cache stays right if memory keeps its dirty flag.
use Rattle.std.proofs.Common.{◌≡◌, List, refl, subst, sym}
use Rattle.h41_focal.specs.LabelLaws.{KeepingStaysRight}
use Rattle.h41_labels.specs.KeptAnswers.{IsRight}
use Rattle.h41_labels.specs.declared.search.KeptAnswer.{KeptAnswer}
use Rattle.h41_positions.specs.LabelledMachine.{AreRight, Keeps, LabelledFocal, LabelledMachine, labelled_with}
use Rattle.h41_ram.specs.RamState.{KeepsMark, RamState}

-- Only memory changes.
pub right_over : KeepingStaysRight → (old from : LabelledMachine) (ram : RamState) → from ≡ old → KeepsMark from.ram ram → AreRight old
    → AreRight (labelled_with ram from.focal)
right_over keeping old from ram is mark right =
    keeping from (labelled_with ram from.focal) (record { mark = mark; labels = refl })
    (subst (λ (machine : LabelledMachine). AreRight machine) (sym is) right)

-- Only the position changes.
pub right_beside : (old from : LabelledMachine) (focal : LabelledFocal) → from ≡ old → focal.labels ≡ from.focal.labels → AreRight old
    → AreRight (labelled_with from.ram focal)
right_beside old from focal is labels right = λ clear.
    subst (λ (of : List KeptAnswer). IsRight of from.ram.registers) (sym labels)
    ((subst (λ (machine : LabelledMachine). AreRight machine) (sym is) right) clear)
