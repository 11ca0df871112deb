use Rattle.std.proofs.Common.{rules, subst, sym, slice_set}
use Rattle.h41_pages.specs.private.AddressSpace.{IsPages, without_page}
use Rattle.h41_pages.specs.PageMap.{no_banks}
use Rattle.h41_pages.proofs.AddressSpaces.{pages_unplugged}
use Rattle.h41_pages.proofs.pages.Pages.unplug.Goals as goal

pub invariant_of-self : goal.invariant_of-self
invariant_of-self c =
    let images = c.self.inside.images.items in
    let chosen = c.self.inside.chosen in
    let page = c.from-page.result in
    subst (IsPages _) (sym c.clear.ensures)
    (subst (λ bank. IsPages (record { images = slice_set images page no_banks; chosen = slice_set chosen page bank })
    (without_page c.self.inside.space page)) (sym c.of.ensures)
    (pages_unplugged (record { images = images; chosen = chosen }) c.self.inside.space page c.self.invariant (search rules)))
