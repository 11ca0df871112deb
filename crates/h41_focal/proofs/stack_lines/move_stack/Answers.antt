use Rattle.std.proofs.Common.{◌≡◌, ℕ, ap, refl, ◌∙◌}
use Rattle.h41_positions.specs.LabelledMachine.{machine_of}
use Rattle.h41_focal.specs.declared.machine.Machine.TheInside.{Inside}
use Rattle.h41_focal.proofs.RowDone.{row_done}
use Rattle.h41_focal.proofs.stack_lines.move_stack.Goals as goal
use Rattle.h41_focal.specs.LineStep.{answer_of_showing}
use Rattle.h41_positions.specs.FocalState.{machine_with}
use Rattle.h41_focal.specs.Outcomes as answers
use Rattle.h41_rows.specs.Rows as rows
use Rattle.h41_focal.specs.private.Works.{move_row}
use Rattle.h41_focal.specs.declared.outcome.LineOutcome.TheVariants as outcomes
use Rattle.h41_focal.specs.declared.works.Movement.{Movement}
use Rattle.h41_focal.specs.declared.works.Movement.TheVariants as moves
use Rattle.h41_ram.specs.RegisterMap.{RegisterMap}

-- A line that changes the stack continues at the next one.
goes_on : (movement : Movement) → (move_row movement).goes ≡ rows.Next
goes_on moves.Exchange = refl
goes_on moves.RollUp = refl
goes_on moves.RollDown = refl
goes_on moves.LastX = refl
goes_on moves.Enter = refl
goes_on moves.Pi = refl
goes_on moves.ClearStack = refl
goes_on moves.ClearX = refl

-- The answer of such a line is Done.
answers_done : (memory : RegisterMap) (movement : Movement) (named : ℕ)
    → answers.Done ≡ answer_of_showing memory named (move_row movement).shows (move_row movement).ends
answers_done memory moves.Exchange named = refl
answers_done memory moves.RollUp named = refl
answers_done memory moves.RollDown named = refl
answers_done memory moves.LastX named = refl
answers_done memory moves.Enter named = refl
answers_done memory moves.Pi named = refl
answers_done memory moves.ClearStack named = refl
answers_done memory moves.ClearX named = refl

pub returns-clause-done : goal.returns-clause-done
returns-clause-done g c = λ named.
    let moved = c.move_registers.ensures.change named in
    let opened = ap (λ (inside : Inside g.row.REGS). machine_with inside.ram.registers inside.focal.state) c.machine-inside.view_is
    ∙ (ap machine_of c.machine.view_is) in
    row_done _ (move_row c.args.movement) named _ _ _ moved.0 outcomes.Done _ _ opened
    (goes_on c.args.movement) moved.1 (answers_done _ c.args.movement named) moved.2 c.go_on_after_movement.ensures.state
