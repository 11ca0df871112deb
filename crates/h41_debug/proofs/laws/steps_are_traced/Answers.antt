use Rattle.h41_debug.proofs.Tracing.{step_told, steps_traced}
use Rattle.h41_debug.proofs.laws.steps_are_traced.Goals as goal

pub returns-clause-described : goal.returns-clause-described
returns-clause-described c = step_told c.positions_are_read.ensures.each

pub returns-clause-traced : goal.returns-clause-traced
returns-clause-traced c = steps_traced c.positions_are_read.ensures.each
