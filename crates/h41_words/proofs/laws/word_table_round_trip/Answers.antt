use Rattle.h41_words.proofs.RoundTrip.{number_of_row, one_word_of_row}
use Rattle.h41_words.proofs.laws.word_table_round_trip.Goals as goal

pub returns-clause-word : goal.returns-clause-word
returns-clause-word c = number_of_row

pub returns-clause-row : goal.returns-clause-row
returns-clause-row c = one_word_of_row
