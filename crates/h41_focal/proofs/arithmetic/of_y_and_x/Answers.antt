use Rattle.std.proofs.Common.{Ok, Err, ap, refl}
use Rattle.h41_positions.specs.LabelledMachine.{machine_of}
use Rattle.h41_focal.proofs.RowApplied.{row_failed}
use Rattle.h41_focal.proofs.RowDone.{row_done}
use Rattle.h41_focal.proofs.ValueComputed.{value_computed}
use Rattle.h41_rows.specs.Places.{X, Y}
use Rattle.h41_rows.specs.Values.{OfTwo}
use Rattle.h41_focal.specs.private.Works.{row_of_work}
use Rattle.h41_focal.specs.declared.works.FunctionWork.TheVariants as works
use Rattle.h41_focal.specs.declared.outcome.LineOutcome.TheVariants as outcomes
use Rattle.h41_focal.proofs.arithmetic.of_y_and_x.Goals as goal

pub returns-in-Ok-clause-done : goal.returns-in-Ok-clause-done
returns-in-Ok-clause-done g c = λ named.
    row_done _ (row_of_work (works.OfYAndX c.args.value)) named _ _ _
    c.in-Ok.register outcomes.Done _ _ (ap machine_of c.machine.view_is) refl
    (value_computed c.machine.inside.ram.registers named (row_of_work (works.OfYAndX c.args.value)) (OfTwo c.args.value Y X)
    (Ok c.in-Ok.register) refl refl (c.in-Ok.ensures c.machine.inside.ram.registers named Y X refl refl refl))
    refl
    (c.drop_into.ensures.change named) c.go_on_lifting.ensures.state

pub returns-in-Err-clause-done : goal.returns-in-Err-clause-done
returns-in-Err-clause-done g c = λ named.
    row_failed _ (row_of_work (works.OfYAndX c.args.value)) named _ _ _ _ c.in-Err.fault _ (ap machine_of c.machine.view_is)
    (value_computed c.machine.inside.ram.registers named (row_of_work (works.OfYAndX c.args.value)) (OfTwo c.args.value Y X)
    (Err c.in-Err.fault) refl refl (c.in-Err.ensures c.machine.inside.ram.registers named Y X refl refl refl))
    c.fail.ensures.done
