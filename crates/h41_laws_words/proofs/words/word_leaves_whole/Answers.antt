use Rattle.h41_laws_words.proofs.Whole.{leaves_whole}
use Rattle.h41_laws_words.proofs.words.word_leaves_whole.Goals as goal

pub returns : goal.returns
returns c = leaves_whole c.word_table_round_trip.ensures.word
