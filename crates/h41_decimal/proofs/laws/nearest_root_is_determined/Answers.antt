use Rattle.h41_decimal.proofs.Determined.{root_determined}
use Rattle.h41_decimal.proofs.laws.nearest_root_is_determined.Goals as goal

pub returns : goal.returns
returns c = root_determined
