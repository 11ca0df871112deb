use Rattle.h41_focal.proofs.TypedAsStepped.{can_be_typed, next_is_here, typed_alike}
use Rattle.h41_focal.proofs.laws.typed_as_stepped.Goals as goal

pub returns-clause-same : goal.returns-clause-same
returns-clause-same c =
    typed_alike c.values_are_determined.ensures
    c.positions_are_read.ensures.read c.positions_are_read.ensures.start
    c.positions_are_read.ensures.local c.searches_are_determined.ensures.global

pub returns-clause-typed : goal.returns-clause-typed
returns-clause-typed c = can_be_typed
    c.positions_are_read.ensures.read

pub returns-clause-here : goal.returns-clause-here
returns-clause-here c = next_is_here
    c.positions_are_read.ensures.read
