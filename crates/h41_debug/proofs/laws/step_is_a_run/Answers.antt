use Rattle.h41_debug.proofs.Runs.{refused_step_is_run, step_is_run}
use Rattle.h41_debug.proofs.laws.step_is_a_run.Goals as goal

pub returns-clause-made : goal.returns-clause-made
returns-clause-made c = step_is_run c.step_is_determined.ensures.refusal c.step_is_determined.ensures.state

pub returns-clause-refused : goal.returns-clause-refused
returns-clause-refused c = refused_step_is_run
