use Rattle.std.proofs.Common.{ap, refl}
use Rattle.std.proofs.lemmas.Result.{err_from_is_err_and}
use Rattle.h41_positions.specs.LabelledMachine.{machine_of}
use Rattle.h41_focal.proofs.RowApplied.{opened_row, row_failed}
use Rattle.h41_focal.proofs.RowAsked.{test_asked, test_faulted, test_leads, test_refused}
use Rattle.h41_rows.specs.Computing.{condition_of}
use Rattle.h41_rows.specs.Rows.{test}
use Rattle.h41_ram.specs.RegisterMap.{zeros}
use Rattle.h41_focal.proofs.questions.ask.Goals as goal

pub returns-in_err-lead-in-Ok-clause-carried : goal.returns-in_err-lead-in-Ok-clause-carried
returns-in_err-lead-in-Ok-clause-carried g c = λ named.
    let condition = condition_of c.args.test in
    let asked = test_asked _ named condition _ c.in-Ok.holds c.asks.ensures c.in-Ok.is in
    let refused = err_from_is_err_and c.from_residual.result c.from_residual.ensures.1 in
    rw (refused.1, refused.2)
    (opened_row c.args.pages.now _ (test condition) named _ _ _ _ (ap machine_of c.machine.view_is)
    (test_refused c.args.pages.now _ (test condition) condition c.in-Ok.holds named _ zeros c.in_err-lead-in-Ok.field-0.0 refl asked.0
    asked.1 c.in_err-lead-in-Ok.ensures))

pub returns-in_ok-lead-in-Ok-clause-carried : goal.returns-in_ok-lead-in-Ok-clause-carried
returns-in_ok-lead-in-Ok-clause-carried g c = λ named.
    let condition = condition_of c.args.test in
    let asked = test_asked _ named condition _ c.in-Ok.holds c.asks.ensures c.in-Ok.is in
    rw c.go_on_lifting.ensures.state
    (opened_row c.args.pages.now _ (test condition) named _ _ _ _ (ap machine_of c.machine.view_is)
    (test_leads c.args.pages.now _ c.in_ok-lead-in-Ok.lead (test condition) condition c.in-Ok.holds named _ zeros c.answer.result refl refl
    refl asked.0 asked.1 c.in_ok-lead-in-Ok.ensures c.answer.ensures))

pub returns-in-Err-clause-carried : goal.returns-in-Err-clause-carried
returns-in-Err-clause-carried g c = λ named.
    row_failed _ (test (condition_of c.args.test)) named _ _ _ _ c.in-Err.fault c.fail.result (ap machine_of c.machine.view_is)
    (test_faulted _ named (condition_of c.args.test) _ c.in-Err.fault c.asks.ensures c.in-Err.is) c.fail.ensures.done c.args.pages.now
