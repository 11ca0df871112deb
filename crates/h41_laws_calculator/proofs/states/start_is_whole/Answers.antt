use Rattle.h41_laws_calculator.proofs.WholeStates.{reset_whole, start_whole}
use Rattle.h41_laws_calculator.proofs.states.start_is_whole.Goals as goal

pub returns-clause-start : goal.returns-clause-start
returns-clause-start c = start_whole

pub returns-clause-reset : goal.returns-clause-reset
returns-clause-reset c = reset_whole
