use Rattle.h41_program.specs.Numbering.{number_in}
use Rattle.h41_walk.proofs.MemoryPrograms.{program_here}
use Rattle.h41_positions.proofs.positions.line_number.Goals as goal

pub returns-in-Page : goal.returns-in-Page
returns-in-Page g c =
    let here = c.place_of-page.ensures in
    let own = c.of.ensures in
    rw c.in-Page.is (rw (own.code, own.pages, own.page, here.page, here.offset) at c.line_number-in-Page.ensures)

pub returns-in-Memory : goal.returns-in-Memory
returns-in-Memory g c =
    rw c.in-Memory.is
    (program_here c.args.ram.now.registers c.requires c.one_list.ensures c.lists_are_determined.ensures.read (number_in c.in-Memory.byte)
    c.in-Memory.byte c.line_number.result c.line_number.ensures)
