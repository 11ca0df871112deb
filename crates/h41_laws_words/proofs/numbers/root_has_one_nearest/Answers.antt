use Rattle.h41_laws_words.proofs.Answering.{has_one, nearest_root}
use Rattle.h41_laws_words.proofs.numbers.root_has_one_nearest.Goals as goal

pub returns : goal.returns
returns c number = has_one (nearest_root number) (c.nearest_root_is_determined.ensures number)
