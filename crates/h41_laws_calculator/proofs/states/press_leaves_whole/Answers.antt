use Rattle.h41_laws_calculator.proofs.Pressed.{one_key, press_whole}
use Rattle.h41_laws_calculator.proofs.states.press_leaves_whole.Goals as goal

pub returns-clause-press : goal.returns-clause-press
returns-clause-press c = press_whole c.key_leaves_whole.ensures

pub returns-clause-outcome : goal.returns-clause-outcome
returns-clause-outcome c = one_key c.key_leaves_whole.ensures c.key_has_one_outcome.ensures
