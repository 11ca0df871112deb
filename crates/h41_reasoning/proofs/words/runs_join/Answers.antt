use Rattle.h41_reasoning.proofs.WordRuns.{joined}
use Rattle.h41_reasoning.proofs.words.runs_join.Goals as goal

pub returns : goal.returns
returns c = joined
