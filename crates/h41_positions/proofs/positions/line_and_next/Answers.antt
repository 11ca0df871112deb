use Rattle.h41_positions.proofs.PageAnswers.{both_here, none_here}
use Rattle.h41_positions.proofs.positions.line_and_next.Goals as goal

pub returns-in-Ok : goal.returns-in-Ok
returns-in-Ok g c =
    rw c.in-Memory.is (both_here c.args.pages.now c.args.ram.now.registers c.in-Memory.at c.in-Ok.line c.in-Ok.byte
    (rw c.in-Ok.is at c.line_and_next.ensures))

pub returns-in-Err : goal.returns-in-Err
returns-in-Err g c =
    rw c.in-Memory.is (none_here c.args.pages.now c.args.ram.now.registers c.in-Memory.at c.in-Err.refusal
    (rw c.in-Err.is at c.line_and_next.ensures))

pub returns-in-Page : goal.returns-in-Page
returns-in-Page g c = rw c.in-Page.is (c.in_page_and_next.ensures c.args.ram.now.registers)
