use Rattle.h41_xrom.proofs.StepLaws.{refusal_determined, step_determined}
use Rattle.h41_xrom.proofs.laws.step_is_determined.Goals as goal

pub returns-clause-refusal : goal.returns-clause-refusal
returns-clause-refusal c = refusal_determined c.line_is_determined.ensures.line

pub returns-clause-state : goal.returns-clause-state
returns-clause-state c = step_determined c.line_is_determined.ensures.line c.micro_is_determined.ensures
