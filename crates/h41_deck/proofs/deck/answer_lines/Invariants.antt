use Rattle.std.proofs.Common.{◌≡◌, false, List}
use Rattle.h41_commands.specs.Items.{Spelled}
use Rattle.h41_ends.specs.InputLines.{IsCounted, most_left}
use Rattle.h41_deck.proofs.AnswersInTurn.{Told}
use Rattle.h41_deck.proofs.DeckReading.{ReadSoFar}
use Rattle.h41_deck.proofs.DeckTurns.{HeardSoFar}
use Rattle.h41_deck.proofs.deck.answer_lines.Given as goal

-- The items that were read so far are done, and what they print is written.
abbrev pub invariant-loop-first : goal.invariant-loop-first
invariant-loop-first g l = record {
  done : (items : List Spelled)
      × ReadSoFar (g.R.Source.remaining l.fn.reader) (g.R.Source.remaining l.reader) l.input items
      × Told g.row.REGS (g.W.Sink.contents l.fn.writer) (g.W.Sink.contents l.writer) items l.bench.state l.outcome;
  reader : g.R.Source.failed l.reader ≡ false;
  writer : g.W.Sink.failed l.writer ≡ false;
  counted : IsCounted l.input (g.R.Source.given l.fn.reader) (g.R.Source.given l.reader);
  heard : (items : List Spelled)
      × HeardSoFar g.row.REGS (g.R.Talk.reads l.fn.reader) (g.R.Talk.reads l.reader) (g.W.Sink.contents l.fn.writer) l.input items
      × Told g.row.REGS (g.W.Sink.contents l.fn.writer) (g.W.Sink.contents l.writer) items l.bench.state l.outcome;
}

abbrev pub decreases-loop-first : goal.decreases-loop-first
decreases-loop-first g l = most_left l.input
