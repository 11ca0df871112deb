use Rattle.h41_debug.proofs.Tracing.{traces_determined}
use Rattle.h41_debug.proofs.laws.traces_are_determined.Goals as goal

pub returns : goal.returns
returns c = traces_determined c.positions_are_read.ensures.read c.step_is_determined.ensures.refusal c.step_is_determined.ensures.state
