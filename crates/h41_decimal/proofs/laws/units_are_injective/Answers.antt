use Rattle.h41_decimal.proofs.Same.{units_injective}
use Rattle.h41_decimal.proofs.laws.units_are_injective.Goals as goal

pub returns : goal.returns
returns c = units_injective
