use Rattle.std.proofs.Common.{ap, refl}
use Rattle.h41_positions.specs.LabelledMachine.{machine_of}
use Rattle.h41_focal.proofs.RowDone.{row_done}
use Rattle.h41_focal.specs.declared.outcome.LineOutcome.TheVariants as outcomes
use Rattle.h41_focal.proofs.stack_lines.be_silent.Goals as goal
use Rattle.h41_rows.specs.Rows.{silent_row}
use Rattle.h41_ram.specs.RegisterMap.{zeros}

pub returns-clause-done : goal.returns-clause-done
returns-clause-done g c = λ named.
    row_done _ silent_row named _ _ _ zeros outcomes.Done _ _
    (ap machine_of c.machine.view_is) refl refl refl refl c.go_on.ensures.state
