use Rattle.h41_laws_words.proofs.Places.{one_place}
use Rattle.h41_laws_words.proofs.words.field_has_place.Goals as goal

pub returns : goal.returns
returns c = one_place
