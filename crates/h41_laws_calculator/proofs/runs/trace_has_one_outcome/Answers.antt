use Rattle.std.proofs.Common.{rules}
use Rattle.h41_laws_calculator.proofs.Left.{one_of_traces}
use Rattle.h41_laws_calculator.proofs.runs.trace_has_one_outcome.Goals as goal

pub returns : goal.returns
returns g c = search (rules, one_of_traces)
