use Rattle.std.proofs.Common.{refl}
use Rattle.h41_program.specs.Searches.{end_in}
use Rattle.h41_walk.proofs.MemoryPrograms.{program_here}
use Rattle.h41_positions.proofs.positions.end_of.Goals as goal

pub returns-in-Page : goal.returns-in-Page
returns-in-Page g c =
    let here = c.place_of-page.ensures in
    let own = c.of.ensures in
    rw (c.in-Page.is, c.offset_found.ensures, here.page)
    (c.end_of-found.result, rw (own.code, own.pages, own.page, here.page, here.offset) at c.end_of-found.ensures, refl)

pub returns-in-Memory : goal.returns-in-Memory
returns-in-Memory g c =
    rw (c.in-Memory.is, c.byte_found.ensures) (
      c.end_of-byte.result,
      program_here c.args.ram.now.registers c.requires c.one_list.ensures c.lists_are_determined.ensures.read end_in
          c.in-Memory.at c.end_of-byte.result c.end_of-byte.ensures,
      refl,
    )
