use Rattle.h41_laws_words.proofs.Answering.{has_one, typed}
use Rattle.h41_laws_words.proofs.numbers.typed_has_one_number.Goals as goal

pub returns : goal.returns
returns c sign digits places exponent =
    has_one (typed sign digits places exponent) (c.typed_is_determined.ensures sign digits places exponent)
