use Rattle.std.proofs.Common.{Ok, refl}
use Rattle.h41_positions.proofs.positions.next.Goals as goal

pub returns-in-Ok-next : goal.returns-in-Ok-next
returns-in-Ok-next g c =
    let here = c.place_of-page.ensures in
    rw (c.in-Page.is, c.in_page.ensures, here.page)
    (Ok c.in-Ok-next.behind, rw (c.in-Ok-next.is, c.of.ensures.code, here.page, here.offset) at c.next-in-Page.ensures, refl)
