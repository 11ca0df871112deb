use Rattle.h41_text.proofs.PlacedNames.{words_are_placed}
use Rattle.h41_text.proofs.words.LeadingWord.named.Goals as goal

pub word_among-requires : goal.word_among-requires
word_among-requires c = words_are_placed
