use Rattle.h41_laws_calculator.proofs.Loading.{one_load, one_size}
use Rattle.h41_laws_calculator.proofs.calculator.load_has_one_outcome.Goals as goal

pub returns-clause-load : goal.returns-clause-load
returns-clause-load c = one_load c.changes_have_one_outcome.ensures.load c.load_is_determined.ensures

pub returns-clause-size : goal.returns-clause-size
returns-clause-size c = one_size
