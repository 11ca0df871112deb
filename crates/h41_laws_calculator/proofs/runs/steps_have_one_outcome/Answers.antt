use Rattle.h41_laws_calculator.proofs.Left.{one_of_steps}
use Rattle.h41_laws_calculator.proofs.runs.steps_have_one_outcome.Goals as goal

pub returns : goal.returns
returns g c = one_of_steps c.steps_are_determined.ensures c.args.count _ _ _ c.steps.ensures.steps
