use Rattle.std.proofs.Common.{◌≡◌, false, vec_len, ◌≤◌, ◌-◌}
use Rattle.std.specs.Io.KnownBytes.{Consumes}
use Rattle.h41_ends.specs.Ends.{given_after}
use Rattle.h41_ends.proofs.input.read_whole.Given as goal

-- The bytes so far are those that the reader has delivered.
abbrev pub invariant-loop-count : goal.invariant-loop-count
invariant-loop-count g l =
    (vec_len l.bytes ≤ 67108864) × (g.R.Source.failed l.reader ≡ false)
    × Consumes (g.R.Source.remaining l.fn.reader) (g.R.Source.remaining l.reader) l.bytes.items
    × (g.R.Source.given l.reader ≡ given_after (g.R.Source.given l.fn.reader) (vec_len l.bytes))

abbrev pub decreases-loop-count : goal.decreases-loop-count
decreases-loop-count g l = 67108864 - vec_len l.bytes
