use Rattle.h41_debug.proofs.Runs.{runs_determined}
use Rattle.h41_debug.proofs.laws.runs_are_determined.Goals as goal

pub returns : goal.returns
returns c = runs_determined c.step_is_determined.ensures.refusal c.step_is_determined.ensures.state
