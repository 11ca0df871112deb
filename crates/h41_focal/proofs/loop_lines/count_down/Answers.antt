use Rattle.std.proofs.Common.{ap, refl}
use Rattle.std.proofs.lemmas.Result.{err_from_is_err_and}
use Rattle.h41_positions.specs.LabelledMachine.{machine_of}
use Rattle.h41_focal.proofs.RowApplied.{opened_row, row_failed}
use Rattle.h41_focal.proofs.RowAsked.{loop_leads, loop_refused, loop_works}
use Rattle.h41_rows.specs.Counters.{Down}
use Rattle.h41_rows.specs.LineRows.{loop}
use Rattle.h41_rows.specs.Places.{Named}
use Rattle.h41_rows.specs.Rows.{Loops}
use Rattle.h41_focal.specs.declared.outcome.LineOutcome.TheVariants as outcomes
use Rattle.h41_ram.specs.RamState.{RamState}
use Rattle.h41_focal.proofs.loop_lines.count_down.Goals as goal

pub returns-in_err-lead-in-Ok-clause-carried : goal.returns-in_err-lead-in-Ok-clause-carried
returns-in_err-lead-in-Ok-clause-carried g c =
    let works = loop_works Down _ c.args.address _ (c.loop_down.ensures.register c.args.address Named refl) in
    let refused = err_from_is_err_and c.from_residual.result c.from_residual.ensures.1 in
    rw (refused.1, refused.2)
    (opened_row c.args.pages.now _ (loop Down) c.args.address _ _ _ _ (ap machine_of c.machine.view_is)
    (loop_refused c.args.pages.now _ (loop Down) (Loops Down Named) c.in-Ok.counted.goes_on c.args.address _
    c.in-Ok.counted.register c.in_err-lead-in-Ok.field-0.0
    refl (rw c.in-Ok.is at works) c.in-Ok.ensures.course c.in_err-lead-in-Ok.ensures))

pub returns-in_ok-lead-in-Ok-clause-carried : goal.returns-in_ok-lead-in-Ok-clause-carried
returns-in_ok-lead-in-Ok-clause-carried g c =
    let works = loop_works Down _ c.args.address _ (c.loop_down.ensures.register c.args.address Named refl) in
    rw (c.go_on_lifting.ensures.state, (ap (λ (ram : RamState). ram.registers) c.write.ensures.written))
    (opened_row c.args.pages.now _ (loop Down) c.args.address _ _ _ _ (ap machine_of c.machine.view_is)
    (loop_leads c.args.pages.now _ c.in_ok-lead-in-Ok.lead (loop Down) (Loops Down Named)
    c.in-Ok.counted.goes_on c.args.address _
    c.in-Ok.counted.register outcomes.Done
    refl refl refl (rw c.in-Ok.is at works) c.in-Ok.ensures.course c.in_ok-lead-in-Ok.ensures refl))

pub returns-in-Err-clause-carried : goal.returns-in-Err-clause-carried
returns-in-Err-clause-carried g c =
    let works = loop_works Down _ c.args.address _ (c.loop_down.ensures.register c.args.address Named refl) in
    row_failed _ (loop Down) c.args.address _ _ _ _ c.in-Err.fault c.fail.result (ap machine_of c.machine.view_is)
    (rw c.in-Err.is at works) c.fail.ensures.done c.args.pages.now
