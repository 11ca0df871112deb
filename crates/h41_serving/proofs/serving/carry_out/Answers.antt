use Rattle.std.proofs.Common.{refl}
use Rattle.std.proofs.lemmas.Result.{err_from_is_err_and}
use Rattle.h41_serving.proofs.TaskDecks.{run_ended, run_failed, same_fault}
use Rattle.h41_serving.proofs.TaskInputs.{assembled, listed}
use Rattle.h41_serving.proofs.serving.carry_out.Goals as goal

pub returns-in-Assemble-clause-carried : goal.returns-in-Assemble-clause-carried
returns-in-Assemble-clause-carried g c =
    rw c.in-Assemble.is
    (assembled c.assemble_source.result g.R.Source g.W.Sink c.args.reader.now c.assemble_source.new.reader c.args.writer.now
    c.assemble_source.new.writer c.in-Assemble.origin c.assemble_source.ensures)

pub returns-in-List-clause-carried : goal.returns-in-List-clause-carried
returns-in-List-clause-carried g c =
    rw c.in-List.is
    (listed c.list_words.result g.R.Source g.W.Sink c.args.reader.now c.list_words.new.reader c.args.writer.now
    c.list_words.new.writer c.in-List.origin c.list_words.ensures)

pub returns-in_ok-run_with-in-Run-clause-carried : goal.returns-in_ok-run_with-in-Run-clause-carried
returns-in_ok-run_with-in-Run-clause-carried g c =
    let ended = c.in_ok-run_with-in-Run.ensures in
    rw (c.ended.ensures, c.in-Run.is)
    (run_ended c.in-Run.memory g.R.Source g.W.Sink c.args.reader.now c.run_with.new.reader c.args.writer.now c.run_with.new.writer
    c.in_ok-run_with-in-Run.field-0 ended.deck ended.outcome ended.flushed (ended.reader (λ is. cc)) ended.writer ended.bound)

pub returns-in_err-run_with-in-Run-clause-carried : goal.returns-in_err-run_with-in-Run-clause-carried
returns-in_err-run_with-in-Run-clause-carried g c =
    let from = err_from_is_err_and c.from_residual.result c.from_residual.ensures.1 in
    let fault = c.in_err-run_with-in-Run.ensures in
    rw (from.1, from.2, c.in-Run.is)
    (run_failed c.in-Run.memory g.R.Source g.W.Sink c.args.reader.now c.run_with.new.reader c.args.writer.now c.run_with.new.writer
    c.in_err-run_with-in-Run.field-0.0 fault.left fault.passed (λ other. fault.reader (λ is. other (same_fault _ refl is)))
    fault.writer fault.bound)

pub returns-in-Assemble-clause-turns : goal.returns-in-Assemble-clause-turns
returns-in-Assemble-clause-turns g c = rw c.in-Assemble.is tt

pub returns-in-List-clause-turns : goal.returns-in-List-clause-turns
returns-in-List-clause-turns g c = rw c.in-List.is tt

pub returns-in_ok-run_with-in-Run-clause-turns : goal.returns-in_ok-run_with-in-Run-clause-turns
returns-in_ok-run_with-in-Run-clause-turns g c = rw c.in-Run.is c.run_with.ensures.turns

pub returns-in_err-run_with-in-Run-clause-turns : goal.returns-in_err-run_with-in-Run-clause-turns
returns-in_err-run_with-in-Run-clause-turns g c = rw c.in-Run.is c.run_with.ensures.turns
