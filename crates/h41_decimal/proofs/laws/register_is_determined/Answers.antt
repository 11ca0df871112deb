use Rattle.h41_decimal.proofs.Held.{register_determined}
use Rattle.h41_decimal.proofs.laws.register_is_determined.Goals as goal

pub returns : goal.returns
returns c = register_determined
