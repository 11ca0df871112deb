-- The words of a module at several pages and banks, and what ENBANK keeps.
use Rattle.std.proofs.Common.{◌≡◌, ◌≢◌, ℕ, ◌*◌, ◌<◌, ◌≤◌, true, false, List, length, slice_index, slice_set, if◌then◌else◌}
use Rattle.std.proofs.Common.{is_some, Ok, Err, refl, ap, ◌∙◌, arith}
use Rattle.std.proofs.lemmas.Bool.{le-ltb}
use Rattle.std.proofs.lemmas.List.{get_or-set_other, get_or-set_same}
use Rattle.h41_nut.specs.Addresses.{address_after}
use Rattle.h41_nut.specs.PageWords.{with_own_refusal}
use Rattle.h41_pages.specs.Addresses.{first_address, is_system, offset_of, page_of}
use Rattle.h41_pages.specs.PageMap.{IsPageMap, PageMap, chosen_at, fetched, image_at, with_chosen, word_in}
use Rattle.h41_pages.specs.declared.refusal.FetchRefusal.TheVariants.{SystemRom}
use Rattle.h41_words.specs.declared.rows.Bank.{Bank}
use Rattle.h41_words.specs.declared.rows.Bank.TheVariants.{First}
use Rattle.h41_reasoning.specs.Runs.{HasWords}
use Rattle.h41_reasoning.specs.Plugged.{IsPlugged}

-- Activating a bank changes no image.
images_kept : (pages : PageMap) (page other : ℕ) (chosen bank : Bank)
    → image_at (with_chosen pages other chosen) page bank ≡ image_at pages page bank
images_kept pages page other chosen bank =
    elim (is_some (image_at pages other chosen))
    as (λ yes. image_at (if yes then record pages { chosen = slice_set pages.chosen other chosen } else pages) page bank
    ≡ image_at pages page bank) [
      | true ↦ refl
      | false ↦ refl
    ]

-- Whichever bank is activated, the words are plugged still.
pub plugged_still : (pages : PageMap) (page other : ℕ) (bank chosen : Bank) (words : List ℕ) → IsPlugged pages page bank words
    → IsPlugged (with_chosen pages other chosen) page bank words
plugged_still pages page other bank chosen words plugged =
    record { image = plugged.image; is = images_kept pages page other chosen bank ∙ plugged.is; each = plugged.each }

-- The active bank of another page stays.
pub chosen_elsewhere : (pages : PageMap) (page other : ℕ) (bank : Bank) → other ≢ page
    → chosen_at (with_chosen pages page bank) other ≡ chosen_at pages other
chosen_elsewhere pages page other bank apart =
    elim (is_some (image_at pages page bank))
    as (λ yes. chosen_at (if yes then record pages { chosen = slice_set pages.chosen page bank } else pages) other
    ≡ chosen_at pages other) [
      | true ↦ get_or-set_other pages.chosen page other bank First apart
      | false ↦ refl
    ]

-- The parts of an address in a page.
in_page : (page index : ℕ) → page < 16 → index < 4096 → page_of (address_after (page * 4096) index) ≡ page
in_page page index below less = omega (arith, below, less)

at_offset : (page index : ℕ) → page < 16 → index < 4096 → offset_of (address_after (page * 4096) index) ≡ index
at_offset page index below less = omega (arith, below, less)

open_there : (page index : ℕ) → 4 ≤ page → page < 16 → index < 4096 → is_system (address_after (page * 4096) index) ≡ false
open_there page index above below less = le-ltb (address_after (page * 4096) index) first_address (omega (arith, above, below, less))

module _ (pages : PageMap) (page : ℕ) (bank : Bank) (words : List ℕ) (plugged : IsPlugged pages page bank words) where
  pub plugged_some : is_some (image_at pages page bank) ≡ true
  plugged_some = ap (λ image. is_some image) plugged.is

  -- The words are read if their bank is active.
  pub plugged_words : 4 ≤ page → page < 16 → length words ≤ 4096 → chosen_at pages page ≡ bank → HasWords pages (page * 4096) words
  unfolding fetched
  plugged_words above below fits active index less =
      let short : index < 4096 = omega (arith, fits, less) in
      let address = address_after (page * 4096) index in
      ap with_own_refusal
      (ap
      (λ system. if system then Err (SystemRom address)
      else word_in address (image_at pages (page_of address) (chosen_at pages (page_of address))))
      (open_there page index above below short)
      ∙ ap (λ one. word_in address (image_at pages one (chosen_at pages one))) (in_page page index below short)
      ∙ ap (λ one. word_in address (image_at pages page one)) active
      ∙ ap (λ image. word_in address image) plugged.is
      ∙ ap (λ offset. Ok (slice_index plugged.image.words offset)) (at_offset page index below short)
      ∙ ap (λ word. Ok word) (plugged.each index less))

  -- A bank that is activated is active.
  pub chosen_there : IsPageMap pages → page < 16 → chosen_at (with_chosen pages page bank) page ≡ bank
  chosen_there whole below =
      ap (λ yes. chosen_at (if yes then record pages { chosen = slice_set pages.chosen page bank } else pages) page) plugged_some
      ∙ get_or-set_same pages.chosen page bank First (omega (arith, whole.chosen, below))
