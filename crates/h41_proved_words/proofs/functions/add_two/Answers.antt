use Rattle.h41_proved_words.proofs.AddTwo.{add_two}
use Rattle.h41_proved_words.proofs.functions.add_two.Goals as goal

pub returns : goal.returns
returns c = add_two c.word_is_executed.ensures.straight c.runs_leave_whole.ensures c.increment.ensures
