-- The list of the words of all banks changes with what is plugged, unplugged and written.
use Rattle.std.proofs.Common.{◌≡◌, ◌≢◌, ◌⊎◌, ℕ, ◌+◌, ◌-◌, ◌*◌, ◌<◌, ◌≤◌, Bool, false, List, [], Option, Some, None}
use Rattle.std.proofs.Common.{◌++◌, take, length, replicate, arith, refl, sym, ap, ◌∙◌, inl, inr, get_or-set_other, length-set, rules}
use Rattle.std.proofs.Common.{slice_set, slice_index_or}
use Rattle.std.specs.Prelude.{slice_index, option_map}
use Rattle.std.proofs.lemmas.Bool.{cases_eq}
use Rattle.std.proofs.lemmas.List.{get_or_append_left, get_or-append_right, get_or-take, get_or-drop, get_or-replicate, length-append}
use Rattle.std.proofs.lemmas.List.{length-drop, length-replicate, length-take-le}
use Rattle.std.proofs.Math.Seq.{take-nil}
use Rattle.std.proofs.lemmas.Grind.{get_or-set_at}
use Rattle.h41_words.specs.Counts.{word_count}
use Rattle.h41_words.specs.declared.rows.Bank.{Bank}
use Rattle.h41_words.specs.declared.rows.Bank.TheVariants.{First, Second, Third, Fourth}
use Rattle.h41_pages.specs.Addresses.{page_count, page_size, page_of, offset_of, first_page, last_page, is_system}
use Rattle.h41_pages.specs.private.AddressSpace.{address_count, space_size, nothing, page_place, word_place, empty_space, with_page}
use Rattle.h41_pages.specs.private.AddressSpace.{without_bank, without_page, fetched_from, number_of, IsSpaceOf, IsPages}
use Rattle.h41_pages.specs.PageMap.{PageMap, PageImage, no_banks, no_pages, with_page_image, without_images, written}
use Rattle.h41_pages.specs.PageMap.{chosen_at, chosen_image, bank_place, bank_numbered, image_at, with_first_banks, with_word, plug_refusal}
use Rattle.h41_pages.specs.PageMap.{write_refusal, fetched}
use Rattle.h41_pages.proofs.OtherPages.{bank_below, own_banks, own_changed, others_changed, unplugging_keeps}
use Rattle.h41_pages.proofs.PageMaps.{none_plugged, none_held, none_is_page_map, plugged_held}
use Rattle.h41_pages.proofs.PageMaps.{page_changed, image_changed, choice_changed, choices_cleared, word_changed}
use Rattle.h41_pages.proofs.WrittenWords.{pluggable, image_size, outside_system, other_word, word_fetched}

-- A list that was filled with equal numbers.
pub filled : (items : List ℕ) (spare count number : ℕ) → items ≡ [] → spare ≡ 0
    → take count items ++ replicate (count - spare) number ≡ replicate count number
filled items spare count number none short = search (rules, take-nil)

-- The position of the word at an address of a bank.
page_is : (bank : Bank) (address : ℕ) → address < address_count → page_of (word_place bank address) ≡ page_place bank (page_of address)
page_is bank address below = omega (arith, below)

offset_is : (bank : Bank) (address : ℕ) → offset_of (word_place bank address) ≡ offset_of address
offset_is bank address = omega arith

inside : (bank : Bank) (page : ℕ) → page < page_count → page_place bank page < 64
inside bank page below = omega (arith, below, bank_below bank)

-- At such a position, a page's own numbers are read.
pub read_in_page : (numbers words : List ℕ) (page place : ℕ) → length numbers ≡ space_size → length words ≡ page_size
    → page < 64 → page_of place ≡ page
    → slice_index_or (with_page numbers page words) place 0 ≡ slice_index_or words (offset_of place) 0
read_in_page numbers words page place whole size below here = search (rules, length-take-le, get_or-append_right, get_or_append_left)

-- Elsewhere, the earlier numbers are read.
outside : (numbers words : List ℕ) (page place : ℕ) → length numbers ≡ space_size → length words ≡ page_size → page < 64
    → page_of place ≢ page → (place < page * page_size) ⊎ (page * page_size ≤ place)
    → slice_index_or (with_page numbers page words) place 0 ≡ slice_index_or numbers place 0
outside numbers words page place whole size below apart (inl before) = search (rules, length-take-le, get_or_append_left, get_or-take)
outside numbers words page place whole size below apart (inr from) = search (rules, length-take-le, get_or-append_right, get_or-drop)

pub read_elsewhere : (numbers words : List ℕ) (page place : ℕ) → length numbers ≡ space_size → length words ≡ page_size
    → page < 64 → page_of place ≢ page
    → slice_index_or (with_page numbers page words) place 0 ≡ slice_index_or numbers place 0
read_elsewhere numbers words page place whole size below apart = search (rules, outside)

-- Writing a page does not change the length of the list.
pub count_with_page : (numbers words : List ℕ) (page : ℕ) → length numbers ≡ space_size → length words ≡ page_size → page < 64
    → length (with_page numbers page words) ≡ space_size
count_with_page numbers words page whole size below = search (rules, length-take-le, length-drop, length-append)

-- The number at an address without an image, and with one outside the system's pages.
nothing_there : (address : ℕ) (image : Option PageImage) → image ≡ None → number_of (fetched_from address image) ≡ nothing
nothing_there address image none = search rules

word_there : (address : ℕ) (image : Option PageImage) (words : List ℕ) (writable : Bool) → is_system address ≡ false
    → image ≡ Some (record { words = words; writable = writable })
    → number_of (fetched_from address image) ≡ slice_index words (offset_of address)
word_there address image words writable held some = search rules

-- If nothing is plugged, there are no words.
pub space_at_start : IsSpaceOf no_pages empty_space
space_at_start bank address below =
    get_or-replicate space_size (word_place bank address) nothing 0 (omega (arith, below, bank_below bank))
    ∙ sym (nothing_there address (image_at no_pages (page_of address) bank) (none_there (page_of address) (omega (arith, below))))
  where
    none_there : (page : ℕ) → page < page_count → image_at no_pages page bank ≡ None
    none_there page below =
        ap (λ banks. slice_index_or banks (bank_place bank) None) (get_or-replicate page_count page no_banks [] below)
        ∙ none_plugged (bank_place bank)

-- The list after words were plugged at a bank of a page.
plugged_at : (pages : PageMap) (numbers : List ℕ) (page number : ℕ) (writable : Bool) (words : List ℕ) (bank : Bank) (address : ℕ)
    → IsPages pages numbers → length words ≡ page_size → first_page ≤ page → page ≤ last_page → address < address_count
    → (page_place bank (page_of address) ≡ page_place (bank_numbered number) page)
    ⊎ (page_place bank (page_of address) ≢ page_place (bank_numbered number) page)
    → slice_index (with_page numbers (page_place (bank_numbered number) page) words) (word_place bank address)
    ≡ number_of (fetched_from address (image_at (with_page_image pages page number writable words) (page_of address) bank))
plugged_at pages numbers page number writable words bank address is size low high below (inl here) =
    search (rules, read_in_page, inside, page_is, offset_is, word_there, outside_system, own_changed)
plugged_at pages numbers page number writable words bank address is size low high below (inr apart) =
    search (rules, read_elsewhere, inside, page_is, others_changed, cases_eq)

pub space_plugged : (pages : PageMap) (numbers : List ℕ) (page number : ℕ) (writable : Bool) (words : List ℕ) → IsPages pages numbers
    → plug_refusal pages page number words ≡ None
    → IsSpaceOf (with_page_image pages page number writable words) (with_page numbers (page_place (bank_numbered number) page) words)
space_plugged pages numbers page number writable words is none bank address below =
    let held = plugged_held pages page number writable words none in
    let inside = pluggable page (bank_place (bank_numbered number)) held.held in
    plugged_at pages numbers page number writable words bank address is (image_size words held.words) inside.0 inside.1 below
    (cases_eq (page_place bank (page_of address)) (page_place (bank_numbered number) page))

-- With the words of a bank of a page removed: there are none in it, and where there was none, there still is none.
own_emptied : (numbers : List ℕ) (cleared bank : Bank) (page address : ℕ) → length numbers ≡ space_size → page < page_count
    → address < address_count → page_of address ≡ page → bank_place bank ≡ bank_place cleared
    → slice_index (without_bank numbers cleared page) (word_place bank address) ≡ nothing
own_emptied numbers cleared bank page address whole below in_space here same =
    read_in_page numbers (replicate page_size nothing) (page_place cleared page) (word_place bank address) whole
    (length-replicate page_size nothing) (inside cleared page below) (page_is bank address in_space ∙ omega (arith, here, same))
    ∙ get_or-replicate page_size (offset_of (word_place bank address)) nothing 0 (omega arith)

kept_elsewhere : (numbers : List ℕ) (cleared bank : Bank) (page address : ℕ) → length numbers ≡ space_size → page < page_count
    → address < address_count → page_place bank (page_of address) ≢ page_place cleared page
    → slice_index (without_bank numbers cleared page) (word_place bank address) ≡ slice_index numbers (word_place bank address)
kept_elsewhere numbers cleared bank page address whole below in_space apart =
    read_elsewhere numbers (replicate page_size nothing) (page_place cleared page) (word_place bank address) whole
    (length-replicate page_size nothing) (inside cleared page below) (λ same. apart (sym (page_is bank address in_space) ∙ same))

still_empty : (numbers : List ℕ) (cleared bank : Bank) (page address : ℕ) → length numbers ≡ space_size → page < page_count
    → address < address_count → page_of address ≡ page → slice_index numbers (word_place bank address) ≡ nothing
    → (bank_place bank ≡ bank_place cleared) ⊎ (bank_place bank ≢ bank_place cleared)
    → slice_index (without_bank numbers cleared page) (word_place bank address) ≡ nothing
still_empty numbers cleared bank page address whole below in_space here none known = grind (arith, own_emptied, kept_elsewhere)

count_emptied : (numbers : List ℕ) (cleared : Bank) (page : ℕ) → length numbers ≡ space_size → page < page_count
    → length (without_bank numbers cleared page) ≡ space_size
count_emptied numbers cleared page whole below = search (rules, count_with_page, length-replicate, inside)

-- The list after a page was unplugged.
module _ (numbers : List ℕ) (page : ℕ) (whole : length numbers ≡ space_size) (below : page < page_count) where
  abbrev one : List ℕ
  one = without_bank numbers First page

  abbrev two : List ℕ
  two = without_bank one Second page

  abbrev three : List ℕ
  three = without_bank two Third page

  size_one : length one ≡ space_size
  size_one = count_emptied numbers First page whole below

  size_two : length two ≡ space_size
  size_two = count_emptied one Second page size_one below

  size_three : length three ≡ space_size
  size_three = count_emptied two Third page size_two below

  pub count_without_page : length (without_page numbers page) ≡ space_size
  count_without_page = count_emptied three Fourth page size_three below

  none_left : (bank : Bank) (address : ℕ) → address < address_count → page_of address ≡ page
      → slice_index (without_page numbers page) (word_place bank address) ≡ nothing
  none_left First address in_space here =
      let first = own_emptied numbers First First page address whole below in_space here refl in
      let second = still_empty one Second First page address size_one below in_space here first (cases_eq 0 1) in
      let third = still_empty two Third First page address size_two below in_space here second (cases_eq 0 2) in
      still_empty three Fourth First page address size_three below in_space here third (cases_eq 0 3)
  none_left Second address in_space here =
      let second = own_emptied one Second Second page address size_one below in_space here refl in
      let third = still_empty two Third Second page address size_two below in_space here second (cases_eq 1 2) in
      still_empty three Fourth Second page address size_three below in_space here third (cases_eq 1 3)
  none_left Third address in_space here =
      let third = own_emptied two Third Third page address size_two below in_space here refl in
      still_empty three Fourth Third page address size_three below in_space here third (cases_eq 2 3)
  none_left Fourth address in_space here = own_emptied three Fourth Fourth page address size_three below in_space here refl

  others_left : (bank : Bank) (address : ℕ) → address < address_count → page_of address ≢ page
      → slice_index (without_page numbers page) (word_place bank address) ≡ slice_index numbers (word_place bank address)
  others_left bank address in_space apart = search (rules, kept_elsewhere, size_three, size_two, size_one)

unplugged_at : (pages : PageMap) (numbers : List ℕ) (page : ℕ) (bank : Bank) (address : ℕ) → IsPages pages numbers → page < page_count
    → address < address_count → (page_of address ≡ page) ⊎ (page_of address ≢ page)
    → slice_index (without_page numbers page) (word_place bank address)
    ≡ number_of (fetched_from address (image_at (without_images pages page) (page_of address) bank))
unplugged_at pages numbers page bank address is below in_space (inl here) =
    none_left numbers page is.size below bank address in_space here
    ∙ sym (nothing_there address (image_at (without_images pages page) (page_of address) bank)
    (ap (λ at. image_at (without_images pages page) at bank) here
    ∙ ap (λ banks. slice_index_or banks (bank_place bank) None)
    (own_banks pages.images no_banks page (omega (arith, is.map.images, below)))
    ∙ none_plugged (bank_place bank)))
unplugged_at pages numbers page bank address is below in_space (inr apart) =
    others_left numbers page is.size below bank address in_space apart
    ∙ is.space bank address in_space
    ∙ sym (ap (λ image. number_of (fetched_from address image)) (unplugging_keeps pages page (page_of address) bank apart))

-- The list after a word was written.
module _ (pages : PageMap) (numbers : List ℕ) (target word : ℕ) (is : IsPages pages numbers) (in_space : target < address_count) where
  abbrev chosen : Bank
  chosen = chosen_at pages (page_of target)

  abbrev after : PageMap
  after = written pages target word

  image_after : (bank : Bank) (address : ℕ) → page_of address ≡ page_of target → bank_place bank ≡ bank_place chosen
      → image_at after (page_of address) bank ≡ option_map (with_word (offset_of target) word) (image_at pages (page_of address) bank)
  unfolding written
  image_after bank address its_page its_bank = search (rules, own_changed)

  same_chosen : fetched_from target (image_at after (page_of target) chosen) ≡ fetched_from target (chosen_image after (page_of target))
  unfolding written
  same_chosen = refl

  written_there : (bank : Bank) (address : ℕ) → write_refusal pages target ≡ None → address ≡ target → bank_place bank ≡ bank_place chosen
      → number_of (fetched_from address (image_at after (page_of address) bank)) ≡ word
  unfolding fetched
  written_there bank address none its_address its_bank = search (rules, same_chosen, word_fetched)

  same_place : (bank : Bank) (address : ℕ) → word_place bank address ≢ word_place chosen target
      → (page_of address ≡ page_of target) ⊎ (page_of address ≢ page_of target)
      → (bank_place bank ≡ bank_place chosen) ⊎ (bank_place bank ≢ bank_place chosen)
      → number_of (fetched_from address (image_at after (page_of address) bank))
      ≡ number_of (fetched_from address (image_at pages (page_of address) bank))
  unfolding written
  same_place bank address apart known either = grind (arith, image_after, other_word, others_changed)

  written_at : (bank : Bank) (address : ℕ) → write_refusal pages target ≡ None → address < address_count
      → (word_place bank address ≡ word_place chosen target) ⊎ (word_place bank address ≢ word_place chosen target)
      → slice_index (slice_set numbers (word_place chosen target) word) (word_place bank address)
      ≡ number_of (fetched_from address (image_at after (page_of address) bank))
  written_at bank address none below (inl here) =
      get_or-set_at numbers (word_place chosen target) (word_place bank address) word 0 here
      (omega (arith, is.size, in_space, bank_below chosen, here))
      ∙ sym (written_there bank address none (omega (arith, in_space, below, here)) (omega (arith, in_space, below, here)))
  written_at bank address none below (inr apart) =
      get_or-set_other numbers (word_place chosen target) (word_place bank address) word 0 apart
      ∙ is.space bank address below
      ∙ sym (same_place bank address apart (cases_eq (page_of address) (page_of target)) (cases_eq (bank_place bank) (bank_place chosen)))

-- What is true of pages and their words at any time is true at the start and after each change.
pub pages_at_start : IsPages no_pages empty_space
pages_at_start = record { map = none_is_page_map; size = length-replicate space_size nothing; space = space_at_start }

pub pages_plugged : (pages : PageMap) (numbers : List ℕ) (page number : ℕ) (writable : Bool) (words : List ℕ) → IsPages pages numbers
    → plug_refusal pages page number words ≡ None
    → IsPages (with_page_image pages page number writable words) (with_page numbers (page_place (bank_numbered number) page) words)
pages_plugged pages numbers page number writable words is none =
    let held = plugged_held pages page number writable words none in
    let bank = bank_numbered number in
    let below : page < page_count = omega (arith, (pluggable page (bank_place bank) held.held).1) in
    record {
      map =
          image_changed pages page (bank_place bank) (Some (record { words = words; writable = writable }))
          is.map below (bank_below bank) held;
      size = count_with_page numbers words (page_place bank page) is.size (image_size words held.words) (inside bank page below);
      space = space_plugged pages numbers page number writable words is none;
    }

pub pages_unplugged : (pages : PageMap) (numbers : List ℕ) (page : ℕ) → IsPages pages numbers → page < page_count
    → IsPages (without_images pages page) (without_page numbers page)
pages_unplugged pages numbers page is below =
    let empty = page_changed pages page no_banks is.map below refl (none_held page) in
    record {
      map = choice_changed (record pages { images = slice_set pages.images page no_banks }) page First empty;
      size = count_without_page numbers page is.size below;
      space = λ bank address in_space.
          unplugged_at pages numbers page bank address is below in_space (cases_eq (page_of address) page);
    }

-- Activating a bank changes no word.
pub pages_chosen : (pages : PageMap) (numbers : List ℕ) (page : ℕ) (bank : Bank) → IsPages pages numbers
    → IsPages (record pages { chosen = slice_set pages.chosen page bank }) numbers
pages_chosen pages numbers page bank is = search (rules, choice_changed)

pub pages_with_first_banks : (pages : PageMap) (numbers : List ℕ) → IsPages pages numbers → IsPages (with_first_banks pages) numbers
pages_with_first_banks pages numbers is = record { map = choices_cleared pages is.map; size = is.size; space = is.space }

pub pages_written : (pages : PageMap) (numbers : List ℕ) (address word : ℕ) → IsPages pages numbers → address < address_count
    → word < word_count → write_refusal pages address ≡ None
    → IsPages (written pages address word) (slice_set numbers (word_place (chosen_at pages (page_of address)) address) word)
pages_written pages numbers address word is below small none =
    let place = word_place (chosen_at pages (page_of address)) address in
    record {
      map = word_changed pages address word is.map (omega (arith, below)) small;
      size = length-set numbers place word ∙ is.size;
      space = λ bank other in_space.
          written_at pages numbers address word is below bank other none in_space (cases_eq (word_place bank other) place);
    }

-- The number that a fetch reads.
pub number_fetched : (pages : PageMap) (numbers : List ℕ) (address : ℕ) → IsPages pages numbers → address < address_count
    → slice_index numbers (word_place (chosen_at pages (page_of address)) address) ≡ number_of (fetched pages address)
unfolding fetched
number_fetched pages numbers address is below = is.space (chosen_at pages (page_of address)) address below
