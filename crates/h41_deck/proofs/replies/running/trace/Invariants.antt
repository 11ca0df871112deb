use Rattle.std.proofs.Common.{◌≡◌, ◌-◌, false}
use Rattle.h41_deck.proofs.Running.{TracesOn}
use Rattle.h41_deck.proofs.replies.running.trace.Given as goal

-- What is written so far, and that it continues with the steps that remain.
abbrev pub invariant-loop-made : goal.invariant-loop-made
invariant-loop-made g l = record {
  on : TracesOn l.fn.count (l.fn.count - l.made) l.fn.bench.state l.bench.state (g.W.Sink.contents l.fn.writer)
      (g.W.Sink.contents l.writer);
  clear : g.W.Sink.failed l.writer ≡ false;
}
