use Rattle.h41_laws_calculator.proofs.Left.{one_of_runs}
use Rattle.h41_laws_calculator.proofs.runs.run_has_one_outcome.Goals as goal

pub returns : goal.returns
returns g c = one_of_runs c.runs_are_determined.ensures c.args.limit _ _ _ _ c.run.ensures.run
