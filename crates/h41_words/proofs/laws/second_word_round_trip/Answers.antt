use Rattle.h41_words.proofs.SecondWords.{said_by_word, word_of_second}
use Rattle.h41_words.proofs.laws.second_word_round_trip.Goals as goal

pub returns-clause-word : goal.returns-clause-word
returns-clause-word c = said_by_word

pub returns-clause-second : goal.returns-clause-second
returns-clause-second c = word_of_second
