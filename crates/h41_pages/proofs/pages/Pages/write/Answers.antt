-- The image is a supported one, and the word is written in it and at its bank's address.
use Rattle.std.proofs.Common.{true, false, ap, subst, sym, ◌∙◌, slice_index_or, slice_set}
use Rattle.std.specs.Prelude.{option_map}
use Rattle.h41_pages.specs.private.AddressSpace.{IsPages, word_place}
use Rattle.h41_pages.specs.PageMap.{PageMap, with_word, write_refusal, written}
use Rattle.h41_pages.proofs.AddressSpaces.{pages_written}
use Rattle.h41_pages.proofs.PageMaps.{bank_as, kept_as, reached, refused_as, written_as}
use Rattle.h41_pages.proofs.pages.Pages.write.Goals as goal

pub returns : goal.returns
returns c =
    let there =
    reached (record { images = c.self.inside.images.items; chosen = c.self.inside.chosen })
    c.args.address c.page_of-page.result c.bank_place.result c.bank-bank.result _ c.index_mut.result.now _
    c.index-index_mut-bank_place.result c.self.invariant.map c.page_of-page.ensures.page c.page_of-page.ensures.bound
    c.bank-bank.ensures c.bank_place.ensures.place c.bank_place.ensures.bound c.index_mut.ensures.value in
    let address = c.args.address in
    let word = c.args.word in
    let image = slice_index_or c.index_mut.result.now c.bank_place.result c.index-index_mut-bank_place.result in
    let made =
    c.write_plugged.ensures.written c.if-not-write_plugged.false
    ∙ ap (λ offset. option_map (with_word offset word) image) c.offset_of.ensures.offset in
    record {
      refusal =
          refused_as there true (sym c.if-not-write_plugged.false ∙ c.write_plugged.ensures.writable)
          ∙ ap (λ (pages : PageMap). write_refusal pages address) c.self.view_is;
      ok =
          written_as there word c.write_plugged.new.image made
          ∙ ap (λ (pages : PageMap). written pages address word) c.self.view_is;
      unchanged = tt;
    }

pub returns-then-not-write_plugged : goal.returns-then-not-write_plugged
returns-then-not-write_plugged c =
    let there =
    reached (record { images = c.self.inside.images.items; chosen = c.self.inside.chosen })
    c.args.address c.page_of-page.result c.bank_place.result c.bank-bank.result _ c.index_mut.result.now _
    c.index-index_mut-bank_place.result c.self.invariant.map c.page_of-page.ensures.page c.page_of-page.ensures.bound
    c.bank-bank.ensures c.bank_place.ensures.place c.bank_place.ensures.bound c.index_mut.ensures.value in
    record {
      refusal =
          refused_as there false (sym c.if-not-write_plugged.true ∙ c.write_plugged.ensures.writable)
          ∙ ap (λ (pages : PageMap). write_refusal pages c.args.address) c.self.view_is;
      ok = tt;
      unchanged =
          kept_as there c.write_plugged.new.image (c.write_plugged.ensures.unchanged c.if-not-write_plugged.true)
          ∙ c.self.view_is;
    }

pub invariant_of-self : goal.invariant_of-self
invariant_of-self c =
    let there =
    reached (record { images = c.self.inside.images.items; chosen = c.self.inside.chosen })
    c.args.address c.page_of-page.result c.bank_place.result c.bank-bank.result _ c.index_mut.result.now _
    c.index-index_mut-bank_place.result c.self.invariant.map c.page_of-page.ensures.page c.page_of-page.ensures.bound
    c.bank-bank.ensures c.bank_place.ensures.place c.bank_place.ensures.bound c.index_mut.ensures.value in
    subst (λ pages. IsPages pages c.self.inside.space)
    (sym (kept_as there c.write_plugged.new.image (c.write_plugged.ensures.unchanged c.if-not-write_plugged.true)))
    c.self.invariant

pub invariant_of-self-2 : goal.invariant_of-self-2
invariant_of-self-2 c =
    let space = c.self.inside.space in
    let image = slice_index_or c.index_mut.result.now c.bank_place.result c.index-index_mut-bank_place.result in
    let address = c.args.address in
    let word = c.args.word in
    let there =
    reached (record { images = c.self.inside.images.items; chosen = c.self.inside.chosen })
    c.args.address c.page_of-page.result c.bank_place.result c.bank-bank.result _ c.index_mut.result.now _
    c.index-index_mut-bank_place.result c.self.invariant.map c.page_of-page.ensures.page c.page_of-page.ensures.bound
    c.bank-bank.ensures c.bank_place.ensures.place c.bank_place.ensures.bound c.index_mut.ensures.value in
    let made =
    c.write_plugged.ensures.written c.if-not-write_plugged.false
    ∙ ap (λ offset. option_map (with_word offset word) image) c.offset_of.ensures.offset in
    let accepted = refused_as there true (sym c.if-not-write_plugged.false ∙ c.write_plugged.ensures.writable) in
    subst (λ pages. IsPages pages c.set.new.self) (sym (written_as there word c.write_plugged.new.image made))
    (subst (IsPages _)
    (sym (c.set.ensures ∙ ap (λ bank. slice_set space (word_place bank address) word) (bank_as there)))
    (pages_written _ space address word c.self.invariant c.ranges.address.fits c.write_plugged.ensures.word (sym accepted)))
