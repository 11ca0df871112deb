use Rattle.std.proofs.Common.{◌≡◌, ◌≢◌, ℕ, if◌then◌else◌, slice_set, rules, arith}
use Rattle.h41_words.specs.declared.rows.Bank.{Bank}
use Rattle.h41_pages.specs.Addresses.{page_of}
use Rattle.h41_pages.specs.PageMap.{PageMap, fetched}
use Rattle.h41_pages.proofs.OtherPages.{same_fetch, other_chosen}
use Rattle.h41_pages.proofs.PluggedWords.{others_plugged, others_unplugged}
use Rattle.h41_pages.proofs.laws.other_pages_stay.Goals as goal

pub returns-clause-plug : goal.returns-clause-plug
returns-clause-plug c = others_plugged

pub returns-clause-unplug : goal.returns-clause-unplug
returns-clause-unplug c = others_unplugged

chosen_elsewhere : (b : _) (pages : PageMap) (page : ℕ) (bank : Bank) (address : ℕ) → page_of address ≢ page
    → fetched (if b then record pages { chosen = slice_set pages.chosen page bank } else pages) address ≡ fetched pages address
chosen_elsewhere b pages page bank address different = grind (arith, same_fetch, other_chosen)

pub returns-clause-choose : goal.returns-clause-choose
returns-clause-choose c = search (rules, chosen_elsewhere)
