use Rattle.std.proofs.Common.{rules, subst, sym, ap, ◌∙◌}
use Rattle.h41_pages.specs.PageMap.{PageMap, bank_place}
use Rattle.h41_pages.specs.private.AddressSpace.{IsPages, page_place, with_page}
use Rattle.h41_pages.proofs.AddressSpaces.{pages_plugged}
use Rattle.h41_pages.proofs.PageMaps.{plugged_as, row_is}
use Rattle.h41_pages.proofs.pages.Pages.plug.Goals as goal

pub invariant_of-self : goal.invariant_of-self
invariant_of-self c =
    let images = c.self.inside.images.items in
    let chosen = c.self.inside.chosen in
    let words = c.args.words.now in
    let before : PageMap = record { images = images; chosen = chosen } in
    let row = row_is images chosen c.from.result c.index_mut.result.now _ c.self.invariant.map (search rules) c.index_mut.ensures.value in
    let same =
    plugged_as images chosen c.args.page c.args.bank c.args.writable words
    c.from.result c.bank_place.result c.index_mut.result.now c.in_ok-image.image
    c.from.ensures row (c.bank_place.ensures.place ∙ ap bank_place c.bank_numbered-bank.ensures) c.in_ok-image.ensures in
    let place = ap (λ bank. page_place bank c.from-2.result) c.bank_numbered-bank.ensures ∙ ap (page_place _) c.from-2.ensures in
    subst (λ pages. IsPages pages c.put.new.self) (sym same)
    (subst (IsPages _) (sym (c.put.ensures ∙ ap (λ at. with_page c.self.inside.space at words) place))
    (pages_plugged before c.self.inside.space c.args.page c.args.bank c.args.writable words c.self.invariant (search rules)))
