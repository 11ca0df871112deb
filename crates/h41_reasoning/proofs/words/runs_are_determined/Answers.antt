use Rattle.h41_reasoning.proofs.WordRuns.{determined}
use Rattle.h41_reasoning.proofs.words.runs_are_determined.Goals as goal

pub returns : goal.returns
returns c = determined c.micro_is_determined.ensures
