use Rattle.h41_decimal.proofs.Determined.{nearest_determined}
use Rattle.h41_decimal.proofs.laws.nearest_is_determined.Goals as goal

pub returns : goal.returns
returns c = nearest_determined
