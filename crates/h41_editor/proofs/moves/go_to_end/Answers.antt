use Rattle.h41_editor.proofs.Ended.{all_kept, ended, none_kept}
use Rattle.h41_editor.proofs.moves.go_to_end.Goals as goal
use Rattle.h41_positions.specs.FocalState.{machine_with}

pub returns-then-open-clause-line : goal.returns-then-open-clause-line
returns-then-open-clause-line g c =
    let last = c.is_last_open.result in
    let begins = rw c.final_position.ensures.value at c.start_of.ensures in
    ended (machine_with c.args.ram.now.registers c.args.focal.now.state) c.close_last.new.ram.registers last
    c.start_of.result _ c.lists_are_determined.ensures.lines c.in_ok-close_last.ensures.lines c.is_last_open.ensures begins
    (rw (none_kept last c.args.focal.now.state.returns cc) c.halt_at.ensures.state)

pub returns-else-open-clause-line : goal.returns-else-open-clause-line
returns-else-open-clause-line g c =
    let last = c.is_last_open.result in
    let begins = rw c.final_position.ensures.value at c.start_of.ensures in
    ended (machine_with c.args.ram.now.registers c.args.focal.now.state) c.close_last.new.ram.registers last
    c.start_of.result _ c.lists_are_determined.ensures.lines c.in_ok-close_last.ensures.lines c.is_last_open.ensures begins
    (rw (all_kept last c.args.focal.now.state.returns cc) c.go_to_line_00.ensures.state)
