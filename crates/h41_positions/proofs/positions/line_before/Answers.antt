use Rattle.std.proofs.Common.{refl}
use Rattle.h41_program.specs.Numbering.{before_in}
use Rattle.h41_walk.proofs.MemoryPrograms.{program_here}
use Rattle.h41_positions.proofs.positions.line_before.Goals as goal

pub returns-in-Page : goal.returns-in-Page
returns-in-Page g c =
    let here = c.place_of-page.ensures in
    let own = c.of.ensures in
    rw (c.in-Page.is, c.offset_found.ensures, here.page)
    (c.line_before-found.result, rw (own.code, own.pages, own.page, here.page, here.offset) at c.line_before-found.ensures, refl)

pub returns-in-Memory : goal.returns-in-Memory
returns-in-Memory g c =
    rw (c.in-Memory.is, c.byte_found.ensures) (
      c.line_before-byte.result,
      program_here c.args.ram.now.registers c.requires c.one_list.ensures c.lists_are_determined.ensures.read (before_in c.in-Memory.at)
          c.in-Memory.at c.line_before-byte.result c.line_before-byte.ensures,
      refl,
    )
