use Rattle.std.proofs.Common.{ap, refl, ◌∙◌}
use Rattle.h41_positions.specs.LabelledMachine.{machine_of}
use Rattle.h41_focal.specs.declared.machine.Machine.TheInside.{Inside}
use Rattle.h41_positions.specs.FocalState.{machine_with}
use Rattle.h41_focal.proofs.RowDone.{row_done}
use Rattle.h41_rows.specs.Places.{Named}
use Rattle.h41_focal.specs.private.Works.{register_use_row}
use Rattle.h41_focal.specs.declared.uses.RegisterUse.TheVariants as registers
use Rattle.h41_focal.specs.declared.outcome.LineOutcome.TheVariants as outcomes
use Rattle.h41_ram.specs.RegisterMap.{zeros}
use Rattle.h41_focal.proofs.register_lines.recall.Goals as goal

pub returns-clause-done : goal.returns-clause-done
returns-clause-done g c =
    let opened = ap (λ (inside : Inside g.row.REGS). machine_with inside.ram.registers inside.focal.state) c.machine-inside.view_is
    ∙ (ap machine_of c.machine.view_is) in
    row_done _ (register_use_row registers.Recall) c.args.address _ _ _ zeros outcomes.Done _ _ opened refl refl refl
    (c.bring_in_from.ensures.change c.args.address Named zeros refl) c.go_on_lifting.ensures.state
