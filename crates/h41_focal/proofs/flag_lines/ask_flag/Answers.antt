use Rattle.std.proofs.Common.{ap, refl}
use Rattle.std.proofs.lemmas.Result.{err_from_is_err_and}
use Rattle.h41_positions.specs.LabelledMachine.{machine_of}
use Rattle.h41_focal.proofs.RowApplied.{opened_row}
use Rattle.h41_focal.proofs.RowAsked.{test_leads, test_refused}
use Rattle.h41_rows.specs.Rows.{Flag}
use Rattle.h41_focal.specs.private.Works.{flag_use_row}
use Rattle.h41_focal.specs.declared.uses.FlagUse.TheVariants as flags
use Rattle.h41_ram.specs.RegisterMap.{zeros}
use Rattle.h41_focal.proofs.flag_lines.ask_flag.Goals as goal

pub returns-in_err-lead-clause-carried : goal.returns-in_err-lead-clause-carried
returns-in_err-lead-clause-carried g c = λ named.
    let refused = err_from_is_err_and c.from_residual.result c.from_residual.ensures.1 in
    rw (refused.1, refused.2)
    (opened_row c.args.pages.now _ (flag_use_row (flags.Ask c.args.on) c.args.flag) named _ _ _ _ (ap machine_of c.machine.view_is)
    (test_refused c.args.pages.now _ (flag_use_row (flags.Ask c.args.on) c.args.flag)
    (Flag c.args.flag c.args.on) c.agrees_with-holds.result named _ zeros
    c.in_err-lead.field-0.0 refl refl c.agrees_with-holds.ensures c.in_err-lead.ensures))

pub returns-clause-carried : goal.returns-clause-carried
returns-clause-carried g c = λ named.
    rw c.go_on_lifting.ensures.state
    (opened_row c.args.pages.now _ (flag_use_row (flags.Ask c.args.on) c.args.flag) named _ _ _ _ (ap machine_of c.machine.view_is)
    (test_leads c.args.pages.now _ c.in_ok-lead.lead (flag_use_row (flags.Ask c.args.on) c.args.flag) (Flag c.args.flag c.args.on)
    c.agrees_with-holds.result named _ zeros c.answer.result refl refl refl refl c.agrees_with-holds.ensures c.in_ok-lead.ensures
    c.answer.ensures))
