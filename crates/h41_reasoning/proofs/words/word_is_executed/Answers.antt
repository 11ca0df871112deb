use Rattle.h41_reasoning.proofs.WordRuns.{arithmetic, straight}
use Rattle.h41_reasoning.proofs.words.word_is_executed.Goals as goal

pub returns-clause-straight : goal.returns-clause-straight
returns-clause-straight c =
    straight c.word_table_round_trip.ensures.row c.word_has_one_answer.ensures.accepted c.word_leaves_whole.ensures

pub returns-clause-arithmetic : goal.returns-clause-arithmetic
returns-clause-arithmetic c =
    arithmetic c.word_table_round_trip.ensures.row c.word_has_one_answer.ensures.accepted c.word_leaves_whole.ensures
