use Rattle.h41_fields.proofs.Spans.{places_ordered}
use Rattle.h41_fields.proofs.laws.places_are_ordered.Goals as goal

pub returns : goal.returns
returns c = places_ordered
