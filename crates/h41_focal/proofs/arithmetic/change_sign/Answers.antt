use Rattle.std.proofs.Common.{ap, refl}
use Rattle.h41_positions.specs.LabelledMachine.{machine_of}
use Rattle.h41_focal.proofs.RowDone.{row_done}
use Rattle.h41_rows.specs.Places.{X}
use Rattle.h41_focal.specs.private.Works.{row_of_work}
use Rattle.h41_focal.specs.declared.works.FunctionWork.TheVariants as works
use Rattle.h41_focal.specs.declared.outcome.LineOutcome.TheVariants as outcomes
use Rattle.h41_ram.specs.RamState.{RamState}
use Rattle.h41_focal.proofs.arithmetic.change_sign.Goals as goal

pub returns-in-Ok-clause-done : goal.returns-in-Ok-clause-done
returns-in-Ok-clause-done g c = λ named.
    row_done _ (row_of_work works.ChangeSign) named _ _ _ c.in-Ok.register outcomes.Done _ _
    (ap machine_of c.machine.view_is) refl
    (let worked = c.compute_of_one.ensures named X refl in rw c.in-Ok.is at worked) refl
    (ap (λ (ram : RamState). ram.registers) c.set_status_register.ensures.written) c.go_on_lifting.ensures.state
