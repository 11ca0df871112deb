use Rattle.h41_nut.proofs.Determined.{complement_carries}
use Rattle.h41_nut.proofs.laws.complement_sets_carry.Goals as goal

pub returns : goal.returns
returns c = complement_carries c.places_are_ordered.ensures c.complement_borrows.ensures
