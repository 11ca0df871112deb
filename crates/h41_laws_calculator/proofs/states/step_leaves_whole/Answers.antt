use Rattle.h41_laws_calculator.proofs.WholeStates.{step_whole}
use Rattle.h41_laws_calculator.proofs.states.step_leaves_whole.Goals as goal

pub returns : goal.returns
returns c = step_whole c.word_leaves_whole.ensures
