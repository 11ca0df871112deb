use Rattle.std.proofs.Common.{length, ◌-◌}
use Rattle.h41_program.specs.Searches.{end_in}
use Rattle.h41_walk.proofs.Walks.{Asks}
use Rattle.h41_walk.proofs.searches.end_from.Given as goal

-- The question about the remaining lines.
abbrev pub invariant-loop-place : goal.invariant-loop-place
invariant-loop-place g l = Asks (g.C.Code.source l.code) l.from l.at end_in end_in

-- The number of remaining bytes.
abbrev pub decreases-loop-place : goal.decreases-loop-place
decreases-loop-place g l = length (g.C.Code.source l.code).bytes - l.at
