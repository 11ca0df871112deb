use Rattle.h41_reasoning.proofs.Calls.{leaves_whole}
use Rattle.h41_reasoning.proofs.words.runs_leave_whole.Goals as goal

pub returns : goal.returns
returns c = leaves_whole c.word_leaves_whole.ensures
