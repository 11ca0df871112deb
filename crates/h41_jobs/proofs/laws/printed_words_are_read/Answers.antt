use Rattle.h41_jobs.proofs.PrintedWords.{printed_read}
use Rattle.h41_jobs.proofs.laws.printed_words_are_read.Goals as goal

pub returns : goal.returns
returns c = printed_read c.hexadecimal_round_trip.ensures
