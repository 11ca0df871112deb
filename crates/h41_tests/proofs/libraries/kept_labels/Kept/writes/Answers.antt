use Rattle.std.proofs.Common.{ap}
use Rattle.h41_tests.specs.declared.libraries.kept_labels.Kept.TheInside.{Inside}
use Rattle.h41_tests.proofs.LabelsStay.{right_over}
use Rattle.h41_tests.proofs.libraries.kept_labels.Kept.writes.Goals as goal

pub invariant_of-self : goal.invariant_of-self
invariant_of-self c =
    right_over c.kept_answers_stay_right.ensures.keeping c.self.inside.machine _ c.write.new.self
    (ap (λ (inside : Inside). inside.machine) c.self-inside.view_is) c.write.ensures.mark c.self.invariant
