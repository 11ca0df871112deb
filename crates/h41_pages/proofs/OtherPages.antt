-- A change at one page, seen at it and at others.
use Rattle.std.proofs.Common.{◌≡◌, ◌≢◌, ◌⊎◌, ℕ, ◌<◌, ◌≤◌, Bool, List, [], Option, None, if◌then◌else◌, length, arith}
use Rattle.std.proofs.Common.{refl, inl, inr, get_or-set_other, get_or-set_same, slice_set, slice_index_or, is_some, rules}
use Rattle.std.proofs.lemmas.Bool.{cases_eq}
use Rattle.std.proofs.lemmas.List.{set_past}
use Rattle.h41_words.specs.declared.rows.Bank.{Bank}
use Rattle.h41_words.specs.declared.rows.Bank.TheVariants.{First}
use Rattle.h41_pages.specs.Addresses.{page_of, page_count, page_size, offset_of, first_page}
use Rattle.h41_pages.specs.PageLaws.{address_in, PluggingKeepsOtherBanks, WritingKeepsOtherBanks, UnpluggingKeepsOtherBanks}
use Rattle.h41_pages.specs.PageLaws.{ChoosingKeepsBanks}
use Rattle.h41_pages.specs.PageMap.{PageMap, PageImage, IsPageMap, banks_at, chosen_at, chosen_image, bank_place, fetched}
use Rattle.h41_pages.specs.PageMap.{word_in, image_at, with_image, written}

-- A fetch depends only on the banks of its page and on its active bank.
pub same_fetch : (pages others : PageMap) (address : ℕ) → banks_at pages (page_of address) ≡ banks_at others (page_of address)
    → chosen_at pages (page_of address) ≡ chosen_at others (page_of address) → fetched pages address ≡ fetched others address
unfolding fetched
same_fetch pages others address banks chosen = search rules

-- Another page's banks.
pub other_banks : (images : List (List (Option PageImage))) (banks : List (Option PageImage)) (page other : ℕ) → other ≢ page
    → slice_index_or (slice_set images page banks) other [] ≡ slice_index_or images other []
other_banks images banks page other different = rw get_or-set_other refl

pub other_chosen : (chosen : List Bank) (bank : Bank) (page other : ℕ) → other ≢ page
    → slice_index_or (slice_set chosen page bank) other First ≡ slice_index_or chosen other First
other_chosen chosen bank page other different = rw get_or-set_other refl

-- A page's own banks.
pub own_banks : (images : List (List (Option PageImage))) (banks : List (Option PageImage)) (page : ℕ) → page < length images
    → slice_index_or (slice_set images page banks) page [] ≡ banks
own_banks images banks page below = rw get_or-set_same refl

pub own_image : (banks : List (Option PageImage)) (image : Option PageImage) (place : ℕ) → place < length banks
    → slice_index_or (slice_set banks place image) place None ≡ image
own_image banks image place below = rw get_or-set_same refl

pub bank_below : (bank : Bank) → bank_place bank < 4
bank_below bank = grind arith

-- A fetch in a page that can be plugged is from its active image.
pub fetch_at : (pages : PageMap) (page offset : ℕ) (image : Option PageImage) → first_page ≤ page → offset < page_size
    → chosen_image pages page ≡ image → fetched pages (address_in page offset) ≡ word_in (address_in page offset) image
unfolding fetched
fetch_at pages page offset image first below here = search rules

pub offset_in : (page offset : ℕ) → offset < page_size → offset_of (address_in page offset) ≡ offset
offset_in page offset below = omega arith

-- A bank is determined by its index.
same_bank : (bank other : Bank) → bank_place bank ≡ bank_place other → bank ≡ other
same_bank bank other same = search rules

-- The images of pages of which one has another image at a bank: that image, and every other one.
pub own_changed : (pages : PageMap) (page : ℕ) (bank other : Bank) (image : Option PageImage) → IsPageMap pages → page < page_count
    → bank_place other ≡ bank_place bank → image_at (with_image pages page bank image) page other ≡ image
own_changed pages page bank other image is below same = search (rules, own_banks, own_image, bank_below)

other_place : (pages : PageMap) (page : ℕ) (bank other : Bank) (image : Option PageImage) → bank_place other ≢ bank_place bank
    → (page < length pages.images) ⊎ (length pages.images ≤ page)
    → image_at (with_image pages page bank image) page other ≡ image_at pages page other
other_place pages page bank other image apart (inl below) = search (rules, own_banks, get_or-set_other)
other_place pages page bank other image apart (inr above) = search (rules, set_past)

in_page : (pages : PageMap) (page other : ℕ) (bank at : Bank) (image : Option PageImage)
    → (other ≢ page) ⊎ (bank_place at ≢ bank_place bank) → (other ≡ page) ⊎ (other ≢ page)
    → image_at (with_image pages page bank image) other at ≡ image_at pages other at
in_page pages page other bank at image apart known = grind (arith, other_banks, other_place)

pub others_changed : (pages : PageMap) (page other : ℕ) (bank at : Bank) (image : Option PageImage)
    → (other ≢ page) ⊎ (bank_place at ≢ bank_place bank)
    → image_at (with_image pages page bank image) other at ≡ image_at pages other at
others_changed pages page other bank at image apart = in_page pages page other bank at image apart (cases_eq other page)

by_bank : (page other : ℕ) (bank at : Bank) → (other ≢ page) ⊎ (at ≢ bank) → (other ≢ page) ⊎ (bank_place at ≢ bank_place bank)
by_bank page other bank at known = grind (arith, same_bank)

-- Each call keeps the banks that it does not name.
pub plugging_keeps : PluggingKeepsOtherBanks
plugging_keeps pages page number writable words other bank apart = search (rules, others_changed, by_bank)

pub writing_keeps : WritingKeepsOtherBanks
unfolding written
writing_keeps pages address word other bank apart = search (rules, others_changed, by_bank)

pub unplugging_keeps : UnpluggingKeepsOtherBanks
unplugging_keeps pages page other bank different = search (rules, other_banks)

chosen_by : (plugged : Bool) (pages : PageMap) (page : ℕ) (chosen : Bank) (other : ℕ) (bank : Bank)
    → image_at (if plugged then record pages { chosen = slice_set pages.chosen page chosen } else pages) other bank
    ≡ image_at pages other bank
chosen_by plugged pages page chosen other bank = grind arith

pub choosing_keeps : ChoosingKeepsBanks
choosing_keeps pages page chosen other bank = chosen_by (is_some (image_at pages page chosen)) pages page chosen other bank
