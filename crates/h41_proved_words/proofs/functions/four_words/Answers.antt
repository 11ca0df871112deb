use Rattle.h41_proved_words.proofs.FourWords.{four}
use Rattle.h41_proved_words.proofs.functions.four_words.Goals as goal

pub returns : goal.returns
returns c = four c.word_is_executed.ensures.straight c.word_is_executed.ensures.arithmetic
