-- Each change leaves pages as pages are.
use Rattle.std.proofs.Common.{◌≡◌, ◌≢◌, ◌⊎◌, ℕ, zero, suc, ◌+◌, ◌<◌, ◌≤◌, Bool, true, List, [], ◌∷◌, Option, Some, None, length}
use Rattle.std.proofs.Common.{replicate, arith, refl, sym, ap, subst, ◌∙◌, inl, inr, get_or-set_other, length-set, rules}
use Rattle.std.proofs.Common.{slice_set, slice_index_or}
use Rattle.std.specs.Prelude.{IfSome, not, option_map}
use Rattle.std.specs.Bool.{then_some}
use Rattle.std.specs.Option.{option_or}
use Rattle.std.specs.List.{list_all}
use Rattle.std.proofs.lemmas.Bool.{and_parts, cases_eq}
use Rattle.std.proofs.lemmas.Bool.Decides.{nat_tests}
use Rattle.std.proofs.lemmas.List.{get_or-replicate, get_or_default, set-get_or}
use Rattle.std.proofs.Math.ListN.{get_or-eq_default}
use Rattle.h41_words.specs.declared.rows.Bank.{Bank}
use Rattle.h41_words.specs.declared.rows.Bank.TheVariants.{First}
use Rattle.h41_pages.specs.Addresses.{page_of, offset_of}
use Rattle.h41_pages.specs.PageMap.{PageMap, PageImage, IsHeldImage, IsPageMap, no_banks, no_pages, banks_at, bank_place}
use Rattle.h41_pages.specs.PageMap.{bank_numbered, chosen_at, chosen_image, is_held, is_image, is_writable, plug_refusal}
use Rattle.h41_pages.specs.PageMap.{with_page_image, with_word, write_refusal, written}
use Rattle.h41_pages.proofs.OtherPages.{other_banks, own_banks, own_image, bank_below}

-- Each image among the banks of a page is supported there.
abbrev pub HoldsImages : ℕ → List (Option PageImage) → Type 0
HoldsImages page banks = (place : ℕ) → IfSome (slice_index_or banks place None) (IsHeldImage page place)

-- The banks of a page after one was changed.
other_image : (banks : List (Option PageImage)) (image : Option PageImage) (place other : ℕ) → other ≢ place
    → slice_index_or (slice_set banks place image) other None ≡ slice_index_or banks other None
other_image banks image place other different = rw get_or-set_other refl

image_held : (page : ℕ) (banks : List (Option PageImage)) (image : Option PageImage) (place at : ℕ) → place < length banks
    → HoldsImages page banks → IfSome image (IsHeldImage page place) → (at ≡ place) ⊎ (at ≢ place)
    → IfSome (slice_index_or (slice_set banks place image) at None) (IsHeldImage page at)
image_held page banks image place at below each held known = grind (arith, own_image, other_image)

pub bank_changed : (page : ℕ) (banks : List (Option PageImage)) (image : Option PageImage) (place : ℕ) → place < length banks
    → HoldsImages page banks → IfSome image (IsHeldImage page place) → HoldsImages page (slice_set banks place image)
bank_changed page banks image place below each held = λ at. image_held page banks image place at below each held (cases_eq at place)

-- The pages after one got other banks.
banks_sized : (pages : PageMap) (banks : List (Option PageImage)) (page other : ℕ) → IsPageMap pages → page < 16 → length banks ≡ 4
    → other < 16 → (other ≡ page) ⊎ (other ≢ page) → length (slice_index_or (slice_set pages.images page banks) other []) ≡ 4
banks_sized pages banks page other is below size inside known = grind (arith, own_banks, other_banks)

banks_held : (pages : PageMap) (banks : List (Option PageImage)) (page other : ℕ) → IsPageMap pages → page < 16 → HoldsImages page banks
    → (other ≡ page) ⊎ (other ≢ page) → HoldsImages other (slice_index_or (slice_set pages.images page banks) other [])
banks_held pages banks page other is below each known = grind (arith, own_banks, other_banks)

-- Pages with other banks at a page.
pub page_changed : (pages : PageMap) (page : ℕ) (banks : List (Option PageImage)) → IsPageMap pages → page < 16 → length banks ≡ 4
    → HoldsImages page banks → IsPageMap (record pages { images = slice_set pages.images page banks })
page_changed pages page banks is below size each = search (rules, length-set, banks_sized, cases_eq, banks_held)

-- Pages with another image at a page's bank.
pub image_changed : (pages : PageMap) (page place : ℕ) (image : Option PageImage) → IsPageMap pages → page < 16 → place < 4
    → IfSome image (IsHeldImage page place)
    → IsPageMap (record pages { images = slice_set pages.images page (slice_set (banks_at pages page) place image) })
image_changed pages page place image is below inside held = search (rules, page_changed, length-set, bank_changed)

-- Nothing is plugged in empty banks.
pub none_plugged : (place : ℕ) → slice_index_or no_banks place None ≡ None
none_plugged place = grind arith

pub none_held : (page : ℕ) → HoldsImages page no_banks
none_held page place = subst (λ i. IfSome i (IsHeldImage page place)) (sym (none_plugged place)) tt

-- Pages with another active bank at one of them, and with bank 1 active everywhere.
pub choice_changed : (pages : PageMap) (page : ℕ) (bank : Bank) → IsPageMap pages
    → IsPageMap (record pages { chosen = slice_set pages.chosen page bank })
choice_changed pages page bank is = search (rules, length-set)

pub choices_cleared : (pages : PageMap) → IsPageMap pages → IsPageMap (record pages { chosen = replicate 16 First })
choices_cleared pages is = record { images = is.images; banks = is.banks; chosen = refl; each = is.each }

-- A page with nothing plugged, as at the start.
empty_banks : (page : ℕ) → (page < 16) ⊎ (16 ≤ page) → HoldsImages page (slice_index_or (replicate 16 no_banks) page [])
empty_banks page (inl below) = subst (HoldsImages page) (sym (get_or-replicate 16 page no_banks [] below)) (none_held page)
empty_banks page (inr above) = subst (HoldsImages page) (sym (get_or-eq_default (replicate 16 no_banks) [] above)) (λ place. tt)

pub none_is_page_map : IsPageMap no_pages
none_is_page_map = search (rules, get_or-replicate, empty_banks)

-- Words of which one is changed are still those of an image.
fits_set : (fits : ℕ → Bool) (words : List ℕ) (offset word : ℕ) → list_all fits words ≡ true → fits word ≡ true
    → list_all fits (slice_set words offset word) ≡ true
fits_set fits [] offset word all fit = refl
fits_set fits (first ∷ words) zero word all fit = rw fit (and_parts (fits first) (list_all fits words) all).1
fits_set fits (first ∷ words) (suc offset) word all fit =
    let both = and_parts (fits first) (list_all fits words) all in
    rw (both.0) (fits_set fits words offset word both.1 fit)

pub image_rewritten : (words : List ℕ) (offset word : ℕ) → is_image words ≡ true → word < 0x400
    → is_image (slice_set words offset word) ≡ true
image_rewritten words offset word image small = search (rules, and_parts, length-set, fits_set)

-- Words that are plugged are a supported image.
none_of_both : {A : Type 0} (first second : Option A) → option_or first second ≡ None → (first ≡ None) × (second ≡ None)
none_of_both first second none = grind arith

unless : {A : Type 0} (test : Bool) (value : A) → then_some (not test) value ≡ None → test ≡ true
unless test value none = grind arith

numbered_place : (number : ℕ) → 1 ≤ number → number ≤ 4 → bank_place (bank_numbered number) + 1 ≡ number
numbered_place number least most = grind arith

one_held : (page number : ℕ) → is_held page number ≡ true → is_held page (bank_place (bank_numbered number) + 1) ≡ true
one_held page number held = search (rules, and_parts, numbered_place, nat_tests)

pub plugged_held : (pages : PageMap) (page number : ℕ) (writable : Bool) (words : List ℕ) → plug_refusal pages page number words ≡ None
    → IsHeldImage page (bank_place (bank_numbered number)) (record { words = words; writable = writable })
plugged_held pages page number writable words none = search (rules, none_of_both, one_held, unless)

-- A word of an image is changed at its place, as the code accesses it.
pub image_held_with : (page place : ℕ) (image : PageImage) (offset word : ℕ) → IsHeldImage page place image → word < 0x400
    → IsHeldImage page place (record image { words = slice_set image.words offset word })
image_held_with page place image offset word held small = search (rules, image_rewritten)

pub row_is : (images : List (List (Option PageImage))) (chosen : List Bank) (page : ℕ) (row d : List (Option PageImage))
    → IsPageMap (record { images = images; chosen = chosen }) → page < 16 → row ≡ slice_index_or images page d
    → row ≡ slice_index_or images page []
row_is images chosen page row d is below read = read ∙ get_or_default images page d [] (omega (arith, is.images, below))

-- Words are plugged, as the code accesses their place.
pub plugged_as : (images : List (List (Option PageImage))) (chosen : List Bank) (page number : ℕ)
    (writable : Bool) (words : List ℕ) (from place : ℕ) (row : List (Option PageImage)) (image : PageImage)
    → from ≡ page → row ≡ slice_index_or images from [] → place ≡ bank_place (bank_numbered number)
    → image ≡ record { words = words; writable = writable }
    → record { images = slice_set images from (slice_set row place (Some image)); chosen = chosen }
    ≡ with_page_image (record { images = images; chosen = chosen }) page number writable words
plugged_as images chosen page number writable words from place row image at read bank made = search rules

-- The image of the active bank, as the code accesses it to write in it.
pub record Reached (pages : PageMap) (address from place : ℕ) (bank : Bank) (row : List (Option PageImage)) (image : Option PageImage)
    : Type 0 where
  pub at : from ≡ page_of address
  pub chosen : bank ≡ slice_index_or pages.chosen from First
  pub placed : place ≡ bank_place bank
  pub read : row ≡ slice_index_or pages.images from []
  pub found : slice_index_or row place None ≡ image

pub reached : (pages : PageMap) (address from place : ℕ) (bank other : Bank) (row none : List (Option PageImage)) (image : Option PageImage)
    → IsPageMap pages → from ≡ page_of address → from < 16 → bank ≡ slice_index_or pages.chosen from other
    → place ≡ bank_place bank → place < 4 → row ≡ slice_index_or pages.images from none
    → Reached pages address from place bank row (slice_index_or row place image)
reached pages address from place bank other row none image is at below chosen placed inside read = search (rules, row_is, get_or_default)

module _ {pages : PageMap} {address from place : ℕ} {bank : Bank} {row : List (Option PageImage)} {image : Option PageImage}
    (there : Reached pages address from place bank row image) where
  pub bank_as : bank ≡ chosen_at pages (page_of address)
  bank_as = there.chosen ∙ ap (λ i. slice_index_or pages.chosen i First) there.at

  row_as : row ≡ banks_at pages (page_of address)
  row_as = there.read ∙ ap (λ i. slice_index_or pages.images i []) there.at

  place_as : place ≡ bank_place (chosen_at pages (page_of address))
  place_as = there.placed ∙ ap bank_place bank_as

  chosen_as : chosen_image pages (page_of address) ≡ image
  chosen_as = search (rules, row_as, place_as)

  -- Whether a write is refused.
  pub refused_as : (writable : Bool) → writable ≡ is_writable image
      → then_some (not writable) (record { address = address }) ≡ write_refusal pages address
  refused_as writable is = search (rules, chosen_as)

  -- The image with the word written, and the image as it was.
  pub written_as : (word : ℕ) (made : Option PageImage) → made ≡ option_map (with_word (offset_of address) word) image
      → record pages { images = slice_set pages.images from (slice_set row place made) } ≡ written pages address word
  unfolding written
  written_as word made new = search (rules, row_as, place_as, chosen_as)

  pub kept_as : (made : Option PageImage) → made ≡ image
      → record pages { images = slice_set pages.images from (slice_set row place made) } ≡ pages
  kept_as made same = search (rules, set-get_or)

-- The image at a bank with another word.
rewritten_held : (page place offset word : ℕ) (image : Option PageImage) → word < 0x400 → IfSome image (IsHeldImage page place)
    → IfSome (option_map (with_word offset word) image) (IsHeldImage page place)
rewritten_held page place offset word image small held = grind (arith, image_held_with)

pub word_changed : (pages : PageMap) (address word : ℕ) → IsPageMap pages → page_of address < 16 → word < 0x400
    → IsPageMap (written pages address word)
unfolding written
word_changed pages address word is below small = search (rules, image_changed, bank_below, rewritten_held)
