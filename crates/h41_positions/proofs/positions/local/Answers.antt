use Rattle.std.proofs.Common.{refl}
use Rattle.h41_pages.specs.FunctionTables.{keystroke_offsets}
use Rattle.h41_positions.proofs.Begun.{start_some}
use Rattle.h41_positions.proofs.PageStarts.{labelled}
use Rattle.h41_walk.proofs.MemoryPrograms.{local_here}
use Rattle.h41_positions.proofs.positions.local.Goals as goal

pub returns-in-Page : goal.returns-in-Page
returns-in-Page g c =
    let code = c.of.result.code.now in
    let offset = c.place_of-page.result.1 in
    let begins = keystroke_offsets c.of.result.pages.now c.of.result.page in
    let lists = c.each_is_listed.ensures in
    let once = c.lists_are_determined.ensures in
    let here = c.place_of-page.ensures in
    let own = c.of.ensures in
    let some = start_some lists.first lists.lines once.first once.read code begins offset in
    rw (c.in-Page.is, c.offset_found.ensures, here.page) (
      c.local-found.result,
      rw (own.code, own.pages, own.page, here.page, here.offset) at
          (labelled code begins offset c.args.label lists.lines some c.local-found.result c.local-found.ensures),
      refl,
    )

pub returns-in-Memory : goal.returns-in-Memory
returns-in-Memory g c =
    rw (c.in-Memory.is, c.byte_found.ensures) (
      c.local-byte.result,
      local_here c.args.ram.now.registers c.requires c.one_list.ensures c.lists_are_determined.ensures.read c.in-Memory.at c.args.label
          c.local-byte.result c.local-byte.ensures,
      refl,
    )
