use Rattle.h41_debug.proofs.KeysInTurn.{presses_determined}
use Rattle.h41_debug.proofs.laws.presses_are_determined.Goals as goal

pub returns : goal.returns
returns c = presses_determined c.key_is_determined.ensures
