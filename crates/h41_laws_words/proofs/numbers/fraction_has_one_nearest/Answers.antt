use Rattle.h41_laws_words.proofs.Answering.{has_one, nearest}
use Rattle.h41_laws_words.proofs.numbers.fraction_has_one_nearest.Goals as goal

pub returns : goal.returns
returns c above below some = has_one (nearest above below some) (c.nearest_is_determined.ensures above below)
