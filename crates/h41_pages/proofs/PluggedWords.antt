-- The words that are fetched after a page was plugged or unplugged.
use Rattle.std.proofs.Common.{◌≡◌, ℕ, ◌<◌, Option, Some, None, arith, slice_index_or, rules, get_or-set_same}
use Rattle.h41_words.specs.declared.rows.Bank.{Bank}
use Rattle.h41_pages.specs.PageLaws.{ChosenIsFetched, PluggedIsFetched, PluggingKeepsOthers, UnpluggedIsEmpty, UnpluggingKeepsOthers}
use Rattle.h41_pages.specs.PageMap.{PageMap, PageImage, IsPageMap, image_at, chosen_image, bank_place, no_banks, with_chosen}
use Rattle.h41_pages.proofs.OtherPages.{own_banks, own_image, bank_below, fetch_at, offset_in, same_fetch, other_banks, other_chosen}

pub word_plugged : PluggedIsFetched
word_plugged pages page number offset writable words whole first last below chosen =
    search (rules, bank_below, own_banks, own_image, fetch_at, offset_in)

pub others_plugged : PluggingKeepsOthers
others_plugged pages page number writable words address different = search (rules, same_fetch, other_banks)

-- The words that are plugged at the active bank.
chosen_now : (pages : PageMap) (page : ℕ) (bank : Bank) (image : PageImage) (plugged : Option PageImage) → IsPageMap pages → page < 16
    → image_at pages page bank ≡ plugged → plugged ≡ Some image → chosen_image (with_chosen pages page bank) page ≡ Some image
chosen_now pages page bank image plugged whole below here some = search (rules, get_or-set_same)

pub word_chosen : ChosenIsFetched
word_chosen pages page offset bank image whole first last below here = search (rules, fetch_at, chosen_now, offset_in)

none_of : (bank : Bank) → slice_index_or no_banks (bank_place bank) None ≡ None
none_of bank = grind arith

pub page_emptied : UnpluggedIsEmpty
page_emptied pages page offset whole first last below = search (rules, own_banks, none_of, fetch_at)

pub others_unplugged : UnpluggingKeepsOthers
others_unplugged pages page address different = search (rules, same_fetch, other_banks, other_chosen)
