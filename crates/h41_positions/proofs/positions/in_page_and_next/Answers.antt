use Rattle.std.proofs.Common.{Ok, Err, refl}
use Rattle.h41_pages.specs.Addresses.{page_of}
use Rattle.h41_positions.specs.Positions.{placed_in}
use Rattle.h41_program.specs.declared.refusal.ProgramRefusal.TheVariants.{BrokenProgram}
use Rattle.h41_positions.proofs.positions.in_page_and_next.Goals as goal

pub returns-in-Ok : goal.returns-in-Ok
returns-in-Ok c memory =
    let here = c.place_of-page.ensures in
    let is = rw (c.in-Ok.is, c.of.ensures.code, here.page, here.offset) at c.line_and_next.ensures in
    rw (c.in_page.ensures, here.page)
    ((placed_in (page_of c.args.address) is.0.0, (Ok is.0.0, is.0.1, refl), is.0.2), (Ok c.in-Ok.behind, is.1, refl))

pub returns-in-Err : goal.returns-in-Err
returns-in-Err c memory =
    let here = c.place_of-page.ensures in
    let is = rw (c.in-Err.is, c.of.ensures.code, here.page, here.offset) at c.line_and_next.ensures in
    (is.0, (Err BrokenProgram, (refl, is.1), refl))
