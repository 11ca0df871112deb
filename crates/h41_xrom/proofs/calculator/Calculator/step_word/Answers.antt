use Rattle.std.proofs.Common.{ap}
use Rattle.h41_positions.specs.LabelledMachine.{LabelledFocal}
use Rattle.h41_xrom.specs.declared.calculator.Calculator.TheInside.{Inside}
use Rattle.h41_xrom.proofs.LabelsStay.{right_over, right_with}
use Rattle.h41_xrom.proofs.calculator.Calculator.step_word.Goals as goal

pub invariant_of-self-then-ends : goal.invariant_of-self-then-ends
invariant_of-self-then-ends g c =
    right_with c.kept_answers_stay_right.ensures.keeping c.self.inside.machine _ c.step_to_end.new.ram c.focal.inside.labels
    (ap (λ (inside : Inside g.row.REGS). inside.machine) c.self-inside.view_is) c.step_to_end.ensures.mark
    (ap (λ (focal : LabelledFocal). focal.labels) c.focal.view_is) c.self.invariant

pub invariant_of-self-else-ends : goal.invariant_of-self-else-ends
invariant_of-self-else-ends g c =
    right_over c.kept_answers_stay_right.ensures.keeping c.self.inside.machine _ c.step_to_end.new.ram
    (ap (λ (inside : Inside g.row.REGS). inside.machine) c.self-inside.view_is) c.step_to_end.ensures.mark c.self.invariant
