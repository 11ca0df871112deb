use Rattle.std.proofs.Common.{ap, refl}
use Rattle.h41_positions.specs.LabelledMachine.{machine_of}
use Rattle.h41_focal.proofs.RowDone.{row_done}
use Rattle.h41_focal.specs.private.Works.{row_of_work}
use Rattle.h41_focal.specs.declared.works.FunctionWork.TheVariants as works
use Rattle.h41_focal.specs.declared.works.AlphaWork.TheVariants as alphas
use Rattle.h41_focal.specs.declared.outcome.LineOutcome.TheVariants as outcomes
use Rattle.h41_ram.specs.RegisterMap.{zeros}
use Rattle.h41_ram.specs.RamState.{RamState}
use Rattle.h41_focal.proofs.alpha_lines.change_alpha.Goals as goal

pub returns-in-Clear-clause-done : goal.returns-in-Clear-clause-done
returns-in-Clear-clause-done g c = λ named.
    rw c.in-Clear.is
    (row_done _ (row_of_work (works.Alpha alphas.Clear)) named _ _ _ zeros
    outcomes.Done _ _ (ap machine_of c.machine.view_is) refl refl refl
    (c.replace_text.ensures.change named) c.go_on_lifting.ensures.state)

pub returns-in-Shift-clause-done : goal.returns-in-Shift-clause-done
returns-in-Shift-clause-done g c = λ named.
    rw c.in-Shift.is
    (row_done _ (row_of_work (works.Alpha alphas.Shift)) named _ _ _ zeros
    outcomes.Done _ _ (ap machine_of c.machine.view_is) refl refl refl
    (c.shift_six.ensures.change named) c.go_on_lifting-in-Shift.ensures.state)

pub returns-in-Mode-clause-done : goal.returns-in-Mode-clause-done
returns-in-Mode-clause-done g c = λ named.
    rw c.in-Mode.is
    (row_done _ (row_of_work (works.Alpha (alphas.Mode c.in-Mode.on))) named _ _ _
    zeros outcomes.Done _ _ (ap machine_of c.machine.view_is) refl refl refl
    (ap (λ (ram : RamState). ram.registers) c.set_flag.ensures.written) c.go_on_lifting-in-Mode.ensures.state)
