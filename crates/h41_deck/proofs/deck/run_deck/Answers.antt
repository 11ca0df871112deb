use Rattle.std.proofs.lemmas.Result.{err_from_is_err_and}
use Rattle.h41_deck.proofs.DeckFaults.{leaves_passed, leaves_stuck}
use Rattle.h41_deck.proofs.deck.run_deck.Goals as goal

pub returns-in_err-flush-in-Err-OutOfMemory-clause-left : goal.returns-in_err-flush-in-Err-OutOfMemory-clause-left
returns-in_err-flush-in-Err-OutOfMemory-clause-left g c =
    let failed = err_from_is_err_and c.from_residual.result c.from_residual.ensures.1 in
    let left = rw c.in-Err-OutOfMemory.field-0-is at c.in-Err-OutOfMemory.ensures.lines.left in
    rw (failed.1, failed.2)
    (leaves_stuck g.row.REGS g.R.Source g.W.Sink c.args.reader.now c.answer_deck.new.reader c.args.writer.now c.answer_deck.new.writer
    c.flush.new.writer left c.flush.ensures.bytes)

pub returns-in_ok-flush-in-Err-OutOfMemory-clause-left : goal.returns-in_ok-flush-in-Err-OutOfMemory-clause-left
returns-in_ok-flush-in-Err-OutOfMemory-clause-left g c =
    let left = rw c.in-Err-OutOfMemory.field-0-is at c.in-Err-OutOfMemory.ensures.lines.left in
    leaves_passed g.row.REGS g.R.Source g.W.Sink c.args.reader.now c.answer_deck.new.reader c.args.writer.now c.answer_deck.new.writer
    c.flush.new.writer left c.flush.ensures.bytes
