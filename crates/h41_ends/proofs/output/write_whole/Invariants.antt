use Rattle.std.proofs.Common.{length, ◌-◌, ◌≡◌, false, take, ◌≤◌}
use Rattle.std.specs.Io.KnownBytes.{Appends}
use Rattle.h41_ends.proofs.output.write_whole.Given as goal

-- The bytes before `written` are written.
abbrev pub invariant-loop-written : goal.invariant-loop-written
invariant-loop-written g l =
    (l.written ≤ length l.bytes) × (g.W.Sink.failed l.writer ≡ false)
    × Appends (g.W.Sink.contents l.fn.writer) (g.W.Sink.contents l.writer) (take l.written l.bytes)

abbrev pub decreases-loop-written : goal.decreases-loop-written
decreases-loop-written g l = length l.bytes - l.written
