use Rattle.std.proofs.lemmas.Result.{err_from_is_err_and}
use Rattle.h41_refusals.specs.declared.fault.Fault.TheVariants.{OutOfMemory}
use Rattle.std.proofs.Common.{[]}
use Rattle.h41_ends.proofs.HeardReads.{adds_none}
use Rattle.h41_deck.proofs.DeckFaults.{failed, leaves_none, told_fault}
use Rattle.h41_deck.proofs.deck.answer_deck.Goals as goal

pub returns-in_err-bench-clause-lines : goal.returns-in_err-bench-clause-lines
returns-in_err-bench-clause-lines g c =
    let from = err_from_is_err_and c.from_residual.result c.from_residual.ensures.1 in
    told_fault g.row.REGS g.R.Source g.W.Sink _ _ _ _ _ _ _ from.1 from.2
    (failed g.row.REGS g.R.Source g.W.Sink c.args.reader.now c.args.reader.now c.args.writer.now c.args.writer.now OutOfMemory
    (leaves_none g.row.REGS g.R.Source g.W.Sink c.args.reader.now c.args.writer.now)
    (λ is. cc) (λ other. c.requires.reader_clear) c.requires.writer_clear)

pub returns-in_err-bench-clause-turns : goal.returns-in_err-bench-clause-turns
returns-in_err-bench-clause-turns g c = ([], adds_none _, tt)
