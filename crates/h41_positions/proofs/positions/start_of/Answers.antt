use Rattle.std.proofs.Common.{refl}
use Rattle.h41_positions.proofs.positions.start_of.Goals as goal

pub returns-in-Page : goal.returns-in-Page
returns-in-Page g c =
    let here = c.place_of-page.ensures in
    let own = c.of.ensures in
    rw (c.in-Page.is, c.in_page.ensures, here.page)
    (c.start_of-in-Page.result, rw (own.code, own.pages, own.page, here.page, here.offset) at c.start_of-in-Page.ensures, refl)
