use Rattle.h41_laws_calculator.proofs.Typing.{presses_whole}
use Rattle.h41_laws_calculator.proofs.states.key_leaves_whole.Goals as goal

pub returns : goal.returns
returns c = presses_whole
