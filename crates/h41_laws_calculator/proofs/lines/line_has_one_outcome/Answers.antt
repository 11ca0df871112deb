use Rattle.std.proofs.Common.{rules}
use Rattle.h41_laws_calculator.proofs.Placed.{next_or_none}
use Rattle.h41_laws_calculator.proofs.Carried.{one_step, one_typed}
use Rattle.h41_laws_calculator.proofs.lines.line_has_one_outcome.Goals as goal

pub returns-clause-step : goal.returns-clause-step
returns-clause-step c = search (rules, one_step, next_or_none)

pub returns-clause-typed : goal.returns-clause-typed
returns-clause-typed c = search (rules, one_typed, next_or_none)
