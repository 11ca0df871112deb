-- The words that are fetched after a word was written.
use Rattle.std.proofs.Common.{◌≡◌, ◌≢◌, ◌⊎◌, ℕ, ◌+◌, ◌<◌, ◌≤◌, Bool, true, false, not, List, Option, Some, None, Ok}
use Rattle.std.proofs.Common.{length, arith, inl, inr, get_or-set_same, get_or-set_other, rules}
use Rattle.std.specs.Prelude.{◌==◌, option_map}
use Rattle.std.specs.Bool.{then_some}
use Rattle.std.specs.List.{list_all}
use Rattle.std.proofs.lemmas.Bool.{and_parts, cases_eq, eqb-true}
use Rattle.std.proofs.lemmas.Bool.Decides.{nat_tests}
use Rattle.std.proofs.lemmas.List.{set_past}
use Rattle.h41_pages.specs.Addresses.{page_of, offset_of, page_size, is_system}
use Rattle.h41_pages.specs.PageLaws.{WrittenIsFetched, WritingKeepsOthers}
use Rattle.h41_pages.specs.PageMap.{PageMap, PageImage, IsHeldImage, IsPageMap, chosen_at, chosen_image, bank_place}
use Rattle.h41_pages.specs.PageMap.{is_held, is_image, is_writable, fetched, word_in, with_word, written}
use Rattle.h41_pages.specs.declared.refusal.ReadOnly.{ReadOnly}
use Rattle.h41_pages.proofs.OtherPages.{same_fetch, other_banks, own_banks, own_image, bank_below}

-- The image of the active bank is supported.
chosen_held : (pages : PageMap) (page : ℕ) (image : PageImage) → IsPageMap pages → chosen_image pages page ≡ Some image
    → IsHeldImage page (bank_place (chosen_at pages page)) image
chosen_held pages page image is here = search rules

pub pluggable : (page place : ℕ) → is_held page (place + 1) ≡ true → (4 ≤ page) × (page ≤ 15)
pluggable page place held = search (rules, and_parts, nat_tests)

pub image_size : (words : List ℕ) → is_image words ≡ true → length words ≡ page_size
image_size words image = eqb-true (length words) page_size (and_parts (length words == page_size) (list_all _ words) image).0

-- The image of the active bank after a write.
chosen_after : (pages : PageMap) (address word : ℕ) → IsPageMap pages → page_of address < 16
    → chosen_image (written pages address word) (page_of address)
    ≡ option_map (with_word (offset_of address) word) (chosen_image pages (page_of address))
unfolding written
chosen_after pages address word is below = search (rules, own_banks, own_image, bank_below)

-- A fetch outside the system's pages.
fetched_in : (pages : PageMap) (address : ℕ) (image : Option PageImage) → is_system address ≡ false
    → chosen_image pages (page_of address) ≡ image → fetched pages address ≡ word_in address image
unfolding fetched
fetched_in pages address image held here = search rules

pub outside_system : (address : ℕ) → 4 ≤ page_of address → is_system address ≡ false
outside_system address above = let high : 0x4000 ≤ address = omega (arith, above) in grind (arith, nat_tests)

accepted_writable : (writable : Bool) (reason : ReadOnly) → then_some (not writable) reason ≡ None → writable ≡ true
accepted_writable writable reason none = grind arith

of_image : (pages : PageMap) (address word : ℕ) (image : Option PageImage) → IsPageMap pages → chosen_image pages (page_of address) ≡ image
    → is_writable image ≡ true → fetched (written pages address word) address ≡ Ok word
of_image pages address word None is here writable = let no : false ≡ true = writable in absurd (cc)
of_image pages address word (Some image) is here writable =
    search (rules, chosen_held, pluggable, image_size, fetched_in, outside_system, chosen_after, get_or-set_same)

pub word_fetched : WrittenIsFetched
word_fetched pages address word is accepted = search (rules, of_image, accepted_writable)

-- Another word of an image of which one was written.
pub other_word : (address offset word : ℕ) (image : Option PageImage) → offset_of address ≢ offset
    → word_in address (option_map (with_word offset word) image) ≡ word_in address image
other_word address offset word image apart = grind (arith, get_or-set_other)

beyond : (pages : PageMap) (at word address : ℕ) → length pages.images ≤ page_of at
    → fetched (written pages at word) address ≡ fetched pages address
unfolding written
beyond pages at word address above = search (rules, set_past)

in_same_page : (pages : PageMap) (at word address : ℕ) → IsPageMap pages → page_of address ≡ page_of at → offset_of address ≢ offset_of at
    → (page_of at < 16) ⊎ (16 ≤ page_of at) → fetched (written pages at word) address ≡ fetched pages address
unfolding fetched
in_same_page pages at word address is same apart (inl below) = search (rules, chosen_after, other_word)
in_same_page pages at word address is same apart (inr above) = beyond pages at word address (omega (arith, is.images, above))

by_page : (pages : PageMap) (at word address : ℕ) → IsPageMap pages → address ≢ at
    → (page_of address ≡ page_of at) ⊎ (page_of address ≢ page_of at) → fetched (written pages at word) address ≡ fetched pages address
unfolding written
by_page pages at word address is apart known = grind (arith, in_same_page, same_fetch, other_banks)

pub others_stay : WritingKeepsOthers
others_stay pages at word address is apart = by_page pages at word address is apart (cases_eq (page_of address) (page_of at))
