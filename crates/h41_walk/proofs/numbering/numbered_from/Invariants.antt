use Rattle.std.proofs.Common.{length, ◌-◌}
use Rattle.h41_program.specs.Numbering.{numbered_in}
use Rattle.h41_walk.proofs.Walks.{Asks}
use Rattle.h41_walk.proofs.numbering.numbered_from.Given as goal

-- The question about the remaining lines.
abbrev pub invariant-loop-found : goal.invariant-loop-found
invariant-loop-found g l = Asks (g.C.Code.source l.code) l.from l.at (numbered_in l.number) (numbered_in l.left)

-- The number of remaining bytes.
abbrev pub decreases-loop-found : goal.decreases-loop-found
decreases-loop-found g l = length (g.C.Code.source l.code).bytes - l.at
