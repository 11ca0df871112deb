use Rattle.h41_reasoning_lines.proofs.Rounds.{joined}
use Rattle.h41_reasoning_lines.proofs.lines.line_runs_join.Goals as goal

pub returns : goal.returns
returns c = joined
