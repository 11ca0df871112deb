use Rattle.std.proofs.Common.{◌≡◌, ◌≤◌, ℕ, false, List}
use Rattle.std.specs.Io.KnownBytes.{Keeps}
use Rattle.h41_ends.specs.HeardLines.{Hears}
use Rattle.h41_ends.specs.InputLines.{CountsOn, ReadsMore, most_left}
use Rattle.h41_commands.specs.private.ItemReading.{SpellNothing}
use Rattle.h41_commands.proofs.reading.read_first_line.Given as goal

-- The lines so far are skipped.
abbrev pub invariant-loop-input : goal.invariant-loop-input
invariant-loop-input g l = record {
  lines : (skipped : List (List ℕ)) × SpellNothing skipped
      × ReadsMore (g.R.Source.remaining l.fn.reader) (g.R.Source.remaining l.reader) l.fn.input l.input skipped;
  bound : most_left l.input ≤ most_left l.fn.input;
  kept : Keeps (g.W.Sink.contents l.fn.writer) (g.W.Sink.contents l.writer);
  reader : g.R.Source.failed l.reader ≡ false;
  writer : g.W.Sink.failed l.writer ≡ false;
  counted : CountsOn l.fn.input l.input (g.R.Source.given l.fn.reader) (g.R.Source.given l.reader);
  heard : (skipped : List (List ℕ)) × SpellNothing skipped
      × Hears SpellNothing (g.R.Talk.reads l.fn.reader) (g.R.Talk.reads l.reader) (g.W.Sink.contents l.fn.writer) l.fn.input l.input
      skipped;
}

abbrev pub decreases-loop-input : goal.decreases-loop-input
decreases-loop-input g l = most_left l.input
