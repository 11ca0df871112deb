use Rattle.std.proofs.Common.{ap, refl}
use Rattle.h41_positions.specs.LabelledMachine.{machine_of}
use Rattle.h41_focal.proofs.RowApplied.{row_failed}
use Rattle.h41_focal.proofs.RowDone.{row_done}
use Rattle.h41_focal.proofs.ValueComputed.{value_computed}
use Rattle.h41_rows.specs.Places.{X}
use Rattle.h41_rows.specs.Values.{OfOne}
use Rattle.h41_focal.specs.private.Works.{row_of_work}
use Rattle.h41_focal.specs.declared.works.FunctionWork.TheVariants as works
use Rattle.h41_focal.specs.declared.outcome.LineOutcome.TheVariants as outcomes
use Rattle.h41_focal.proofs.arithmetic.of_x.Goals as goal

pub returns-in-Ok-clause-done : goal.returns-in-Ok-clause-done
returns-in-Ok-clause-done g c = λ named.
    row_done _ (row_of_work (works.OfX c.args.value)) named _ _ _ c.in-Ok.register outcomes.Done _ _
    (ap machine_of c.machine.view_is) refl
    (value_computed _ named (row_of_work (works.OfX c.args.value)) (OfOne c.args.value X) _ refl refl (c.in-Ok.ensures named X refl))
    refl
    (c.keep_last.ensures.change named) c.go_on_lifting.ensures.state

pub returns-in-Err-clause-done : goal.returns-in-Err-clause-done
returns-in-Err-clause-done g c = λ named.
    row_failed _ (row_of_work (works.OfX c.args.value)) named _ _ _ _ c.in-Err.fault _ (ap machine_of c.machine.view_is)
    (value_computed _ named (row_of_work (works.OfX c.args.value))
    (OfOne c.args.value X) _ refl refl (c.in-Err.ensures named X refl))
    c.fail.ensures.done
