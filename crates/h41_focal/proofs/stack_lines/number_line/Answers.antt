use Rattle.std.proofs.Common.{ap, refl, ◌∙◌}
use Rattle.h41_codes.specs.declared.line.Line.TheVariants as lines
use Rattle.h41_positions.specs.LabelledMachine.{machine_of}
use Rattle.h41_focal.specs.declared.machine.Machine.TheInside.{Inside}
use Rattle.h41_positions.specs.FocalState.{machine_with}
use Rattle.h41_focal.proofs.RowDone.{row_done}
use Rattle.h41_focal.proofs.stack_lines.number_line.Goals as goal
use Rattle.h41_rows.specs.LineRows.{row_of}
use Rattle.h41_rows.specs.Operands.{NoOperand}
use Rattle.h41_focal.specs.declared.outcome.LineOutcome.TheVariants as outcomes

pub returns-clause-done : goal.returns-clause-done
returns-clause-done g c = λ text always named.
    let opened = ap (λ (inside : Inside g.row.REGS). machine_with inside.ram.registers inside.focal.state) c.machine-inside.view_is
    ∙ (ap machine_of c.machine.view_is) in
    row_done _ (row_of (lines.Number text) NoOperand) named _ _ _ c.args.number outcomes.Done _ _ opened
    refl (always _ named) refl (c.bring_in.ensures.change named)
    c.go_on_lifting.ensures.state
