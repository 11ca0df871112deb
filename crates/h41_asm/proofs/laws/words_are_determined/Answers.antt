use Rattle.h41_asm.proofs.Assembled.{one_words}
use Rattle.h41_asm.proofs.laws.words_are_determined.Goals as goal

pub returns : goal.returns
returns c = one_words
