use Rattle.h41_arith.proofs.Places.{replaced_determined}
use Rattle.h41_arith.proofs.laws.replaced_is_determined.Goals as goal

pub returns : goal.returns
returns c = replaced_determined
