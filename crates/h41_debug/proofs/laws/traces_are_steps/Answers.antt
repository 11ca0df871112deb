use Rattle.h41_debug.proofs.Tracing.{traces_make}
use Rattle.h41_debug.proofs.laws.traces_are_steps.Goals as goal

pub returns : goal.returns
returns c = traces_make
