use Rattle.h41_debug.proofs.StepsInTurn.{steps_determined}
use Rattle.h41_debug.proofs.laws.steps_are_determined.Goals as goal

pub returns : goal.returns
returns c = steps_determined c.step_is_determined.ensures.refusal c.step_is_determined.ensures.state
