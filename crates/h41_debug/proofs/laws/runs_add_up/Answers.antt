use Rattle.h41_debug.proofs.Runs.{runs_added}
use Rattle.h41_debug.proofs.laws.runs_add_up.Goals as goal

pub returns : goal.returns
returns c = runs_added c.step_is_determined.ensures.refusal c.step_is_determined.ensures.state
