use Rattle.std.proofs.Common.{◌∷◌, ◌++◌, [], Err, ap, refl, rules, sym, ◌∙◌}
use Rattle.std.proofs.lemmas.Bool.{false≢true}
use Rattle.std.proofs.lemmas.Result.{err_from_is_err_and}
use Rattle.h41_commands.proofs.FirstLines.{first_line, first_none, shut_line}
use Rattle.h41_commands.specs.private.Entries.{what_is_spelled}
use Rattle.h41_commands.specs.Items.{line_spelled}
use Rattle.h41_commands.proofs.HeardItems.{heard_fault, heard_line, heard_none}
use Rattle.h41_ends.proofs.InputReading.{consumes-nothing, gives_within}
use Rattle.h41_ends.specs.InputLines.{line_in}
use Rattle.h41_deck.proofs.AnswersInTurn.{told_kept, told_more, told_none}
use Rattle.h41_deck.proofs.DeckFaults.{below_most, deck_ended, deck_written, ended, failed_answer, failed_first, failed_item, failed_write}
use Rattle.h41_deck.proofs.DeckFaults.{leaves_answer, leaves_first, leaves_item, leaves_whole, never_failed, same_fault, told_fault}
use Rattle.h41_deck.proofs.DeckReading.{read_item, read_none, whole_done}
use Rattle.h41_deck.proofs.DeckTurns.{block_heard, block_unheard, heard_item, heard_nothing, turns_end}
use Rattle.h41_deck.proofs.ShortLines.{block_failed, block_next}
use Rattle.h41_deck.proofs.deck.answer_lines.Goals as goal

pub loop-first-init : goal.loop-first-init
loop-first-init g c = record {
  done = (
    [],
    read_none (g.R.Source.remaining c.args.reader.now) c.new-input.result (consumes-nothing _) c.new-input.ensures.nothing
        c.new-input.ensures.goes_on,
    rw c.requires.new (told_none g.row.REGS (g.W.Sink.contents c.args.writer.now)),
  );
  reader = c.requires.reader_clear;
  writer = c.requires.writer_clear;
  counted = c.new-input.ensures.counted (g.R.Source.given c.args.reader.now);
  heard = (
    [],
    heard_nothing g.row.REGS (g.R.Talk.reads c.args.reader.now) (g.W.Sink.contents c.args.writer.now) c.new-input.result
        c.new-input.ensures.nothing,
    rw c.requires.new (told_none g.row.REGS (g.W.Sink.contents c.args.writer.now)),
  );
}

pub read_first_line-requires-clause-reader_clear : goal.read_first_line-requires-clause-reader_clear
read_first_line-requires-clause-reader_clear g c = c.loop-first.invariant.reader

pub read_first_line-requires-clause-writer_clear : goal.read_first_line-requires-clause-writer_clear
read_first_line-requires-clause-writer_clear g c = c.loop-first.invariant.writer

pub read_block-requires-clause-reader_clear : goal.read_block-requires-clause-reader_clear
read_block-requires-clause-reader_clear g c = c.in_ok-first.ensures.reader never_failed

pub read_block-requires-clause-writer_clear : goal.read_block-requires-clause-writer_clear
read_block-requires-clause-writer_clear g c = c.in_ok-first.ensures.writer

pub loop-first-smaller : goal.loop-first-smaller
loop-first-smaller g c = rw c.in-Some.is at c.in_ok-first.ensures.fewer

pub loop-first-smaller-then-opens_block : goal.loop-first-smaller-then-opens_block
loop-first-smaller-then-opens_block g c =
    below_most _ _ _ c.in_ok-item.ensures.bound (rw c.in-Some.is at c.in_ok-first.ensures.fewer)

pub read_block-requires-clause-first : goal.read_block-requires-clause-first
read_block-requires-clause-first g c = rw c.in-Some.is at c.in_ok-first.ensures.first

pub read_block-requires-clause-opens : goal.read_block-requires-clause-opens
read_block-requires-clause-opens g c = sym c.if-opens_block.ensures

pub answer-requires : goal.answer-requires
answer-requires g c = (search rules, c.in_ok-item.ensures.writer)

pub answer_line-requires : goal.answer_line-requires
answer_line-requires g c =
    let first = rw c.in-Some.is at c.in_ok-first.ensures.first in
    (search rules, (c.in_ok-first.ensures.writer, search (rules, first)))

pub loop-first-preserved-then-opens_block : goal.loop-first-preserved-then-opens_block
loop-first-preserved-then-opens_block g c =
    let so_far = c.loop-first.invariant.done in
    let first = rw c.in-Some.is at c.in_ok-first.ensures.line in
    let fewer = rw c.in-Some.is at c.in_ok-first.ensures.fewer in
    let next = block_next _ _ _ _ _ _ _ (sym c.if-opens_block.ensures) first c.in_ok-item.item c.in_ok-item.ensures.item in
    let told = told_kept _ _ _ _ _ _ (told_kept _ _ _ _ _ _ so_far.2 c.in_ok-first.ensures.kept) c.in_ok-item.ensures.kept in
    let heard = c.loop-first.invariant.heard in
    let heard_next = block_heard _ _ _ _ _ _ _ _ _
    c.in_ok-first.ensures.kept (sym c.if-opens_block.ensures) (rw c.in-Some.is at c.in_ok-first.ensures.heard) c.in_ok-item.item
    c.in_ok-item.ensures.heard in
    record {
      done = (
        so_far.0 ++ what_is_spelled c.in_ok-item.item ∷ [],
        read_item _ _ _ _ _ _ so_far.1 _ next (below_most _ _ _ c.in_ok-item.ensures.bound fewer) c.in_ok-item.ensures.open,
        rw c.and-outcome.ensures (told_more _ _ _ _ _ _ _ _ _ told c.in_ok-answered.ensures.reply),
      );
      reader = c.in_ok-item.ensures.reader never_failed;
      writer = c.in_ok-answered.ensures.mark;
      counted = c.in_ok-item.ensures.counted _ (c.in_ok-first.ensures.counted _ c.loop-first.invariant.counted);
      heard = (
        heard.0 ++ what_is_spelled c.in_ok-item.item ∷ [],
        heard_item _ _ _ _ _ _ _ _ _ _ heard.1 heard.2 _ heard_next
            (below_most _ _ _ c.in_ok-item.ensures.bound fewer) c.in_ok-item.ensures.open,
        rw c.and-outcome.ensures (told_more _ _ _ _ _ _ _ _ _ (told_kept _ _ _ _ _ _
            (told_kept _ _ _ _ _ _ heard.2 c.in_ok-first.ensures.kept) c.in_ok-item.ensures.kept) c.in_ok-answered.ensures.reply),
      );
    }

pub loop-first-preserved : goal.loop-first-preserved
loop-first-preserved g c =
    let so_far = c.loop-first.invariant.done in
    let first = rw c.in-Some.is at c.in_ok-first.ensures.line in
    let fewer = rw c.in-Some.is at c.in_ok-first.ensures.fewer in
    let line = line_in c.read_first_line.new.input in
    let next = first_line _ _ _ _ _ first (sym c.if-opens_block.ensures) in
    let told = told_kept _ _ _ _ _ _ so_far.2 c.in_ok-first.ensures.kept in
    let heard = c.loop-first.invariant.heard in
    let heard_next = heard_line _ _ _ _ _ _ (rw c.in-Some.is at c.in_ok-first.ensures.heard) (sym c.if-opens_block.ensures) in
    record {
      done = (
        so_far.0 ++ line_spelled line ∷ [],
        read_item _ _ _ _ _ _ so_far.1 _ next fewer (λ unended. absurd (false≢true (sym (shut_line line) ∙ unended))),
        rw c.and-outcome-in-Some.ensures (told_more _ _ _ _ _ _ _ _ _ told (rw c.line.ensures at c.in_ok-next.ensures.reply)),
      );
      reader = c.in_ok-first.ensures.reader never_failed;
      writer = c.in_ok-next.ensures.mark;
      counted = c.in_ok-first.ensures.counted _ c.loop-first.invariant.counted;
      heard = (
        heard.0 ++ line_spelled line ∷ [],
        heard_item _ _ _ _ _ _ _ _ _ _ heard.1 heard.2 _ heard_next fewer (λ unended. absurd (false≢true (sym (shut_line line) ∙ unended))),
        rw c.and-outcome-in-Some.ensures (told_more _ _ _ _ _ _ _ _ _ (told_kept _ _ _ _ _ _ heard.2 c.in_ok-first.ensures.kept)
            (rw c.line.ensures at c.in_ok-next.ensures.reply)),
      );
    }

-- At each read, exactly the complete commands were answered, and at most one byte beyond the limit is read.
pub returns : goal.returns
returns g c =
    let so_far = c.loop-first.invariant.done in
    let next = first_none _ _ _ _ (rw c.in_default.is at c.in_ok-first.ensures.line) in
    let end = rw c.in_default.is at c.in_ok-first.ensures.end in
    let whole = whole_done _ _ _ _ _ _ so_far.1 next (end refl) in
    let told = told_kept _ _ _ _ _ _ so_far.2 c.in_ok-first.ensures.kept in
    let heard = c.loop-first.invariant.heard in
    let heard_next = heard_none _ _ _ _ _ (rw c.in_default.is at c.in_ok-first.ensures.heard) in
    record {
      lines = ended g.row.REGS g.R.Source g.W.Sink _ _ _ _ _ (deck_written _ _ _ _ _ _ _ whole
          (told_kept _ _ _ _ _ _ told c.in_ok-flush.ensures.bytes)) (deck_ended _ _ _ _ _ _ _ whole so_far.2) c.in_ok-flush.ensures.flushed
          (c.in_ok-first.ensures.reader never_failed) c.in_ok-flush.ensures.mark;
      turns = turns_end _ _ _ _ _ _ _ _ _ _ heard.1 heard.2 _ heard_next.hears;
      bound = gives_within c.read_first_line.new.input _ _ (c.in_ok-first.ensures.counted _ c.loop-first.invariant.counted);
    }

pub returns-in_err-first : goal.returns-in_err-first
returns-in_err-first g c =
    let so_far = c.loop-first.invariant.done in
    let from = err_from_is_err_and c.from_residual.result c.from_residual.ensures.1 in
    let fault = c.in_err-first.ensures in
    let heard = c.loop-first.invariant.heard in
    let heard_next = heard_fault _ _ _ _ _ c.in_err-first.field-0.0 c.in_err-first.ensures.heard in
    record {
      lines = told_fault g.row.REGS g.R.Source g.W.Sink _ _ _ _ _ _ _ from.1 from.2
          (failed_first g.row.REGS g.R.Source g.W.Sink _ _ _ _ c.in_err-first.field-0.0
          (leaves_first g.row.REGS g.R.Source g.W.Sink _ c.loop-first.reader _ _ c.loop-first.writer _ _ _ _ _ _ c.in_err-first.field-0.0
          so_far.1 so_far.2 fault.line fault.kept
          (λ is. fault.stopped (ap (λ why. Err why) is)) (λ is. fault.cause (ap (λ why. Err why) is))
          (fault.counted _ c.loop-first.invariant.counted))
          (λ is. fault.flushed (ap (λ why. Err why) is)) (λ other. fault.reader (λ is. other (same_fault _ refl is))) fault.writer);
      turns = turns_end _ _ _ _ _ _ _ _ _ _ heard.1 heard.2 _ heard_next.hears;
      bound = gives_within c.read_first_line.new.input _ _ (c.in_err-first.ensures.counted _ c.loop-first.invariant.counted);
    }

pub returns-in_err-item : goal.returns-in_err-item
returns-in_err-item g c =
    let so_far = c.loop-first.invariant.done in
    let from = err_from_is_err_and c.from_residual-in_err-item.result c.from_residual-in_err-item.ensures.1 in
    let first = rw c.in-Some.is at c.in_ok-first.ensures.line in
    let told = told_kept _ _ _ _ _ _ so_far.2 c.in_ok-first.ensures.kept in
    let fault = c.in_err-item.ensures in
    let heard = c.loop-first.invariant.heard in
    let heard_next = block_unheard _ _ _ _ _ _ _ _ _
    c.in_ok-first.ensures.kept (sym c.if-opens_block.ensures) (rw c.in-Some.is at c.in_ok-first.ensures.heard) c.in_err-item.field-0.0
    c.in_err-item.ensures.heard in
    record {
      lines = told_fault g.row.REGS g.R.Source g.W.Sink _ _ _ _ _ _ _ from.1 from.2
          (failed_item g.row.REGS g.R.Source g.W.Sink _ _ _ _ c.in_err-item.field-0.0
          (leaves_item g.row.REGS g.R.Source g.W.Sink _ c.loop-first.reader _ _ c.read_first_line.new.writer _ _ _ _ _ _
          c.in_err-item.field-0.0 so_far.1 told
          (block_failed _ _ _ _ _ _ _ (sym c.if-opens_block.ensures) first c.in_err-item.field-0.0 fault.item) fault.kept
          (λ is. fault.stopped (ap (λ why. Err why) is)) (λ is. fault.cause (ap (λ why. Err why) is))
          (fault.counted _ (c.in_ok-first.ensures.counted _ c.loop-first.invariant.counted)))
          (λ is. fault.flushed (ap (λ why. Err why) is)) (λ other. fault.reader (λ is. other (same_fault _ refl is))) fault.writer);
      turns = turns_end _ _ _ _ _ _ _ _ _ _ heard.1 heard.2 _ heard_next.hears;
      bound = gives_within c.read_block.new.input _ _
          (c.in_err-item.ensures.counted _ (c.in_ok-first.ensures.counted _ c.loop-first.invariant.counted));
    }

pub returns-in_err-answered : goal.returns-in_err-answered
returns-in_err-answered g c =
    let so_far = c.loop-first.invariant.done in
    let from = err_from_is_err_and c.from_residual-in_err-answered.result c.from_residual-in_err-answered.ensures.1 in
    let first = rw c.in-Some.is at c.in_ok-first.ensures.line in
    let fewer = rw c.in-Some.is at c.in_ok-first.ensures.fewer in
    let next = block_next _ _ _ _ _ _ _ (sym c.if-opens_block.ensures) first c.in_ok-item.item c.in_ok-item.ensures.item in
    let told = told_kept _ _ _ _ _ _ (told_kept _ _ _ _ _ _ so_far.2 c.in_ok-first.ensures.kept) c.in_ok-item.ensures.kept in
    let fault = c.in_err-answered.ensures in
    let heard = c.loop-first.invariant.heard in
    let heard_next = block_heard _ _ _ _ _ _ _ _ _
    c.in_ok-first.ensures.kept (sym c.if-opens_block.ensures) (rw c.in-Some.is at c.in_ok-first.ensures.heard) c.in_ok-item.item
    c.in_ok-item.ensures.heard in
    record {
      lines = told_fault g.row.REGS g.R.Source g.W.Sink _ _ _ _ _ _ _ from.1 from.2
          (failed_answer g.row.REGS g.R.Source g.W.Sink _ _ _ _ c.in_err-answered.field-0.0
          (leaves_answer g.row.REGS g.R.Source g.W.Sink _ _ _ c.read_block.new.writer _ _ _ _ _ _ _ c.in_err-answered.field-0.0
          (read_item _ _ _ _ _ _ so_far.1 _ next (below_most _ _ _ c.in_ok-item.ensures.bound fewer) c.in_ok-item.ensures.open) told
          fault.reply (λ is. fault.memory (ap (λ why. Err why) is)))
          (c.in_ok-item.ensures.reader never_failed) fault.mark);
      turns = turns_end _ _ _ _ _ _ _ _ _ _ heard.1 heard.2 _ heard_next.hears;
      bound = gives_within c.read_block.new.input _ _
          (c.in_ok-item.ensures.counted _ (c.in_ok-first.ensures.counted _ c.loop-first.invariant.counted));
    }

pub returns-in_err-next : goal.returns-in_err-next
returns-in_err-next g c =
    let so_far = c.loop-first.invariant.done in
    let from = err_from_is_err_and c.from_residual-in_err-next.result c.from_residual-in_err-next.ensures.1 in
    let first = rw c.in-Some.is at c.in_ok-first.ensures.line in
    let fewer = rw c.in-Some.is at c.in_ok-first.ensures.fewer in
    let line = line_in c.read_first_line.new.input in
    let next = first_line _ _ _ _ _ first (sym c.if-opens_block.ensures) in
    let told = told_kept _ _ _ _ _ _ so_far.2 c.in_ok-first.ensures.kept in
    let fault = c.in_err-next.ensures in
    let heard = c.loop-first.invariant.heard in
    let heard_next = heard_line _ _ _ _ _ _ (rw c.in-Some.is at c.in_ok-first.ensures.heard) (sym c.if-opens_block.ensures) in
    record {
      lines = told_fault g.row.REGS g.R.Source g.W.Sink _ _ _ _ _ _ _ from.1 from.2
          (failed_answer g.row.REGS g.R.Source g.W.Sink _ _ _ _ c.in_err-next.field-0.0
          (leaves_answer g.row.REGS g.R.Source g.W.Sink _ _ _ c.read_first_line.new.writer _ _ _ _ _ _ _ c.in_err-next.field-0.0
          (read_item _ _ _ _ _ _ so_far.1 _ next fewer (λ unended. absurd (false≢true (sym (shut_line line) ∙ unended)))) told
          (rw c.line.ensures at fault.reply) (λ is. rw c.line.ensures at fault.memory (ap (λ why. Err why) is)))
          (c.in_ok-first.ensures.reader never_failed) fault.mark);
      turns = turns_end _ _ _ _ _ _ _ _ _ _ heard.1 heard.2 _ heard_next.hears;
      bound = gives_within c.read_first_line.new.input _ _ (c.in_ok-first.ensures.counted _ c.loop-first.invariant.counted);
    }

pub returns-in_err-flush : goal.returns-in_err-flush
returns-in_err-flush g c =
    let so_far = c.loop-first.invariant.done in
    let from = err_from_is_err_and c.from_residual-in_err-flush.result c.from_residual-in_err-flush.ensures.1 in
    let next = first_none _ _ _ _ (rw c.in_default.is at c.in_ok-first.ensures.line) in
    let end = rw c.in_default.is at c.in_ok-first.ensures.end in
    let whole = whole_done _ _ _ _ _ _ so_far.1 next (end refl) in
    let told = told_kept _ _ _ _ _ _ so_far.2 c.in_ok-first.ensures.kept in
    let heard = c.loop-first.invariant.heard in
    let heard_next = heard_none _ _ _ _ _ (rw c.in_default.is at c.in_ok-first.ensures.heard) in
    record {
      lines = told_fault g.row.REGS g.R.Source g.W.Sink _ _ _ _ _ _ _ from.1 from.2 (failed_write g.row.REGS g.R.Source g.W.Sink _ _ _ _
          (leaves_whole g.row.REGS g.R.Source g.W.Sink _ _ _ c.read_first_line.new.writer _ _ _ _ whole told c.flush.ensures.bytes)
          c.in_err-flush.ensures.mark (c.in_ok-first.ensures.reader never_failed));
      turns = turns_end _ _ _ _ _ _ _ _ _ _ heard.1 heard.2 _ heard_next.hears;
      bound = gives_within c.read_first_line.new.input _ _ (c.in_ok-first.ensures.counted _ c.loop-first.invariant.counted);
    }
