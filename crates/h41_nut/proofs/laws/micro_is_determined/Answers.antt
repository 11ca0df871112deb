use Rattle.h41_nut.proofs.Determined.{same_micro}
use Rattle.h41_nut.proofs.laws.micro_is_determined.Goals as goal

pub returns : goal.returns
returns c = same_micro c.places_are_ordered.ensures c.sum_is_determined.ensures c.difference_is_determined.ensures
