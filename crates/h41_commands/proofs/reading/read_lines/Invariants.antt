use Rattle.std.proofs.Common.{◌≡◌, ◌≤◌, ℕ, false, List}
use Rattle.std.specs.List.{list_any}
use Rattle.std.specs.Io.KnownBytes.{Keeps}
use Rattle.h41_ends.specs.HeardLines.{Hears}
use Rattle.h41_ends.specs.InputLines.{CountsOn, ReadsMore, most_left}
use Rattle.h41_commands.specs.DeckLines.{is_end}
use Rattle.h41_commands.specs.private.BlockReading.{HaveNoEnd}
use Rattle.h41_commands.specs.private.Entries.{IsTaken}
use Rattle.h41_commands.proofs.reading.read_lines.Given as goal

-- The block has taken the lines so far, and none of them ends it.
abbrev pub invariant-loop-block : goal.invariant-loop-block
invariant-loop-block g l = record {
  lines : (inside : List (List ℕ)) × (list_any is_end inside ≡ false) × IsTaken l.fn.block.kind inside l.block
      × ReadsMore (g.R.Source.remaining l.fn.reader) (g.R.Source.remaining l.reader) l.fn.input l.input inside;
  bound : most_left l.input ≤ most_left l.fn.input;
  kept : Keeps (g.W.Sink.contents l.fn.writer) (g.W.Sink.contents l.writer);
  reader : g.R.Source.failed l.reader ≡ false;
  writer : g.W.Sink.failed l.writer ≡ false;
  counted : CountsOn l.fn.input l.input (g.R.Source.given l.fn.reader) (g.R.Source.given l.reader);
  heard : (inside : List (List ℕ)) × HaveNoEnd inside × IsTaken l.fn.block.kind inside l.block
      × Hears HaveNoEnd (g.R.Talk.reads l.fn.reader) (g.R.Talk.reads l.reader) (g.W.Sink.contents l.fn.writer) l.fn.input l.input
      inside;
}

abbrev pub decreases-loop-block : goal.decreases-loop-block
decreases-loop-block g l = most_left l.input
