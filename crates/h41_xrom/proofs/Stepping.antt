-- The step of a line, by how the line was executed.
use Rattle.std.proofs.Common.{◌≡◌, Some, None, Option, Ok, Err, refl, subst}
use Rattle.h41_focal.specs.MachineCalls.{Steps, left_of}
use Rattle.h41_focal.specs.Outcomes.{answer_of}
use Rattle.h41_focal.specs.declared.outcome.LineOutcome.{LineOutcome}
use Rattle.h41_focal.specs.declared.refusal.FocalRefusal.{FocalRefusal}
use Rattle.h41_positions.specs.FocalState.{Machine}
use Rattle.h41_xrom.specs.Calculator.{CalculatorState, RefusesLine, StepsByLine, after_answer, machine_of, not_typing, of_line}
use Rattle.h41_xrom.specs.Calculator.{with_machine}
use Rattle.h41_xrom.specs.declared.refusal.CalculatorRefusal.{CalculatorRefusal}

-- The line was executed.
pub line_accepted : (from s : CalculatorState) (new : Machine) (outcome : LineOutcome) → from ≡ s
    → Steps from.nut.pages (machine_of from) new (Ok outcome) → RefusesLine s None
line_accepted from s new outcome is steps =
    subst (λ (of : CalculatorState). RefusesLine of None) is (Ok (left_of new outcome), steps, refl)

pub line_changes : (from s t : CalculatorState) (new : Machine) (outcome : LineOutcome) → from ≡ s
    → Steps from.nut.pages (machine_of from) new (Ok outcome)
    → t ≡ after_answer (answer_of new.memory outcome) (not_typing (with_machine new from)) → StepsByLine s t
line_changes from s t new outcome is steps shown =
    subst (λ (of : CalculatorState). StepsByLine of t) is (left_of new outcome, steps, shown)

-- The line was refused.
pub line_refused : (from s : CalculatorState) (new : Machine) (refusal : FocalRefusal) (why : Option CalculatorRefusal) → from ≡ s
    → Steps from.nut.pages (machine_of from) new (Err refusal) → why ≡ Some (of_line refusal) → RefusesLine s why
line_refused from s new refusal why is steps refused =
    subst (λ (of : CalculatorState). RefusesLine of why) is (Err refusal, steps, refused)
