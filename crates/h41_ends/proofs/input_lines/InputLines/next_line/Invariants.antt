use Rattle.std.proofs.Common.{◌≡◌, ◌≤◌, false, []}
use Rattle.std.specs.Io.KnownBytes.{Keeps}
use Rattle.h41_ends.specs.HeardLines.{AreNone, Hears}
use Rattle.h41_ends.specs.InputLines.{CountsOn, ReadsMore, most_left}
use Rattle.h41_ends.specs.private.ReadingOn.{reads_left}
use Rattle.h41_ends.proofs.input_lines.InputLines.next_line.Given as goal

-- No line was returned yet.
abbrev pub invariant-loop-end : goal.invariant-loop-end
invariant-loop-end g l = record {
  reads : ReadsMore (g.R.Source.remaining l.fn.reader) (g.R.Source.remaining l.reader) l.fn.self l.self [];
  bound : most_left l.self ≤ most_left l.fn.self;
  kept : Keeps (g.W.Sink.contents l.fn.writer) (g.W.Sink.contents l.writer);
  reader : g.R.Source.failed l.reader ≡ false;
  writer : g.W.Sink.failed l.writer ≡ false;
  counted : CountsOn l.fn.self l.self (g.R.Source.given l.fn.reader) (g.R.Source.given l.reader);
  heard : Hears AreNone (g.R.Talk.reads l.fn.reader) (g.R.Talk.reads l.reader) (g.W.Sink.contents l.fn.writer) l.fn.self l.self [];
}

abbrev pub decreases-loop-end : goal.decreases-loop-end
decreases-loop-end g l = reads_left l.self
