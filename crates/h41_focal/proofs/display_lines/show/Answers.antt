use Rattle.std.proofs.Common.{ap, refl}
use Rattle.h41_positions.specs.LabelledMachine.{machine_of}
use Rattle.h41_focal.proofs.RowDone.{row_done}
use Rattle.h41_focal.specs.private.Works.{row_of_work}
use Rattle.h41_focal.specs.declared.works.FunctionWork.TheVariants as works
use Rattle.h41_focal.specs.declared.works.DisplayWork.TheVariants as displays
use Rattle.h41_focal.specs.declared.outcome.LineOutcome.TheVariants as outcomes
use Rattle.h41_ram.specs.RegisterMap.{zeros}
use Rattle.h41_focal.proofs.display_lines.show.Goals as goal

pub returns-in-ViewAlpha-clause-done : goal.returns-in-ViewAlpha-clause-done
returns-in-ViewAlpha-clause-done g c = λ named.
    rw c.in-ViewAlpha.is
    (row_done _ (row_of_work (works.Display displays.ViewAlpha)) named _ _ _ zeros outcomes.ViewedAlpha _
    _ (ap machine_of c.machine.view_is) refl refl refl
    refl c.go_on_lifting.ensures.state)

pub returns-in-Clear-clause-done : goal.returns-in-Clear-clause-done
returns-in-Clear-clause-done g c = λ named.
    rw c.in-Clear.is
    (row_done _ (row_of_work (works.Display displays.Clear)) named _ _ _ zeros
    outcomes.Cleared _ _ (ap machine_of c.machine.view_is) refl refl refl
    refl c.go_on_lifting-in-Clear.ensures.state)

pub returns-in-Prompt-clause-done : goal.returns-in-Prompt-clause-done
returns-in-Prompt-clause-done g c = λ named.
    rw c.in-Prompt.is
    (row_done _ (row_of_work (works.Display displays.Prompt)) named _ _ _ zeros outcomes.Prompted _
    _ (ap machine_of c.machine.view_is) refl refl refl
    refl c.go_on_lifting-in-Prompt.ensures.state)

pub returns-in-Stop-clause-done : goal.returns-in-Stop-clause-done
returns-in-Stop-clause-done g c = λ named.
    rw c.in-Stop.is
    (row_done _ (row_of_work (works.Display displays.Stop)) named _ _ _ zeros
    outcomes.Stopped _ _ (ap machine_of c.machine.view_is) refl refl refl
    refl c.go_on.ensures.state)

pub returns-in-TurnOff-clause-done : goal.returns-in-TurnOff-clause-done
returns-in-TurnOff-clause-done g c = λ named.
    rw c.in-TurnOff.is
    (row_done _ (row_of_work (works.Display displays.TurnOff)) named _ _ _ zeros
    outcomes.TurnedOff _ _ (ap machine_of c.machine.view_is) refl refl refl
    refl c.go_on_lifting-in-TurnOff.ensures.state)
