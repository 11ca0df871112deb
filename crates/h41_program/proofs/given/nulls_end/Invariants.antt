use Rattle.std.proofs.Common.{◌≡◌, ℕ, ◌<◌, ◌≤◌, get_or}
use Rattle.h41_program.proofs.given.nulls_end.Given as goal

-- The bytes so far are nulls.
abbrev pub invariant-loop-position : goal.invariant-loop-position
invariant-loop-position l = (k : ℕ) → l.at ≤ k → k < l.position → get_or l.bytes k 0 ≡ 0
