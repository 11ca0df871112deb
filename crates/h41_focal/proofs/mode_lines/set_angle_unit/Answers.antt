use Rattle.std.proofs.Common.{ap, refl}
use Rattle.h41_positions.specs.LabelledMachine.{machine_of}
use Rattle.h41_focal.proofs.RowDone.{row_done}
use Rattle.h41_focal.specs.private.Works.{row_of_work}
use Rattle.h41_focal.specs.declared.works.FunctionWork.TheVariants as works
use Rattle.h41_focal.specs.declared.outcome.LineOutcome.TheVariants as outcomes
use Rattle.h41_ram.specs.RegisterMap.{zeros}
use Rattle.h41_focal.proofs.mode_lines.set_angle_unit.Goals as goal

pub returns-clause-done : goal.returns-clause-done
returns-clause-done g c = λ named.
    row_done _ (row_of_work (works.Angles c.args.grads c.args.radians)) named _ _ _
    zeros outcomes.Done _ _ (ap machine_of c.machine.view_is) refl refl refl
    c.set_angles.ensures.change c.go_on_lifting.ensures.state
