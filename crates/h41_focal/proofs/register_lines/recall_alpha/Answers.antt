use Rattle.std.proofs.Common.{ap, refl}
use Rattle.h41_positions.specs.LabelledMachine.{machine_of}
use Rattle.h41_focal.proofs.RowDone.{row_done}
use Rattle.h41_focal.specs.private.Works.{register_use_row}
use Rattle.h41_focal.specs.declared.uses.RegisterUse.TheVariants as registers
use Rattle.h41_focal.specs.declared.outcome.LineOutcome.TheVariants as outcomes
use Rattle.h41_ram.specs.RegisterMap.{zeros}
use Rattle.h41_focal.proofs.register_lines.recall_alpha.Goals as goal

pub returns-clause-done : goal.returns-clause-done
returns-clause-done g c =
    row_done _ (register_use_row registers.RecallAlpha) c.args.address _ _ _
    zeros outcomes.Done _ _ (ap machine_of c.machine.view_is) refl refl refl
    c.append_register.ensures.change c.go_on_lifting.ensures.state
