use Rattle.h41_arith.proofs.Places.{is_different_tells}
use Rattle.h41_arith.proofs.laws.different_at_a_place.Goals as goal

pub returns : goal.returns
returns c = is_different_tells
