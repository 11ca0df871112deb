use Rattle.std.proofs.Common.{length, ◌-◌, ◌≤◌}
use Rattle.h41_program.specs.Numbering.{number_in}
use Rattle.h41_walk.proofs.Walks.{Asks, counted}
use Rattle.h41_walk.proofs.numbering.number_from.Given as goal

-- The question about the remaining lines.
abbrev pub invariant-loop-found : goal.invariant-loop-found
invariant-loop-found g l =
    Asks (g.C.Code.source l.code) l.from l.at (number_in l.position) (counted l.count l.position) × (l.count ≤ l.at)

-- The number of remaining bytes.
abbrev pub decreases-loop-found : goal.decreases-loop-found
decreases-loop-found g l = length (g.C.Code.source l.code).bytes - l.at
