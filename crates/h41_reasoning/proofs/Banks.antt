-- Words of other banks, and registers of memory that are read as they were written.
use Rattle.std.proofs.Common.{◌≡◌, ◌≢◌, ℕ, ◌<◌, true, false, List, length, slice_set, if◌then◌else◌, is_some, refl, ap, sym, ◌∙◌}
use Rattle.std.proofs.lemmas.List.{set-get_or, set-set}
use Rattle.h41_nut.specs.Addresses.{address_after}
use Rattle.h41_nut.specs.MemoryWords.{with_c_at, with_selected_in_c}
use Rattle.h41_nut.specs.PageWords.{with_own_refusal}
use Rattle.h41_nut.specs.WordStep.{Nut}
use Rattle.h41_pages.specs.Addresses.{page_of}
use Rattle.h41_pages.specs.PageLaws.{ChoosingKeepsOthers}
use Rattle.h41_pages.specs.PageMap.{PageMap, chosen_at, image_at, with_chosen}
use Rattle.h41_ram.specs.RegisterMapLaws.{Exists, ReadsWhatWasWritten}
use Rattle.h41_words.specs.declared.rows.Bank.{Bank}
use Rattle.h41_words.specs.declared.rows.Bank.TheVariants.{First}
use Rattle.h41_reasoning.specs.Runs.{HasWords}

-- Of two banks of a page that are activated one after the other, the second is active.
pub bank_again : (pages : PageMap) (page : ℕ) (one two : Bank) → is_some (image_at pages page two) ≡ true
    → with_chosen (with_chosen pages page one) page two ≡ with_chosen pages page two
bank_again pages page one two plugged =
    elim (is_some (image_at pages page one))
    as (λ yes. with_chosen (if yes then record pages { chosen = slice_set pages.chosen page one } else pages) page two
    ≡ with_chosen pages page two) [
      | true ↦
          ap (λ yes. if yes then record pages { chosen = slice_set (slice_set pages.chosen page one) page two }
          else record pages { chosen = slice_set pages.chosen page one }) plugged
          ∙ ap (λ chosen. record pages { chosen = chosen }) (set-set pages.chosen page one two)
          ∙ sym (ap (λ yes. if yes then record pages { chosen = slice_set pages.chosen page two } else pages) plugged)
      | false ↦ refl
    ]

-- A bank that is active already.
pub bank_active : (pages : PageMap) (page : ℕ) (bank : Bank) → is_some (image_at pages page bank) ≡ true → chosen_at pages page ≡ bank
    → with_chosen pages page bank ≡ pages
bank_active pages page bank plugged active =
    ap (λ yes. if yes then record pages { chosen = slice_set pages.chosen page bank } else pages) plugged
    ∙ ap (λ chosen. record pages { chosen = chosen })
    (ap (λ other. slice_set pages.chosen page other) (sym active) ∙ set-get_or pages.chosen page First)

-- The words of other pages stay.
pub other_words : ChoosingKeepsOthers → (pages : PageMap) (page : ℕ) (bank : Bank) (address : ℕ) (words : List ℕ)
    → ((index : ℕ) → index < length words → page_of (address_after address index) ≢ page) → HasWords pages address words
    → HasWords (with_chosen pages page bank) address words
other_words others pages page bank address words apart has index less =
    ap with_own_refusal (others pages page bank (address_after address index) (apart index less)) ∙ has index less

-- After WRIT DATA, READ DATA leaves the processor as it is, if the selected address exists.
pub read_back : ReadsWhatWasWritten → (s : Nut) → Exists s.ram s.processor.selected
    → with_selected_in_c (with_c_at s.ram s.processor.selected s.processor) s.processor ≡ s.processor
read_back reads s is = ap (λ c. record s.processor { c = c }) (reads s.ram s.processor.selected s.processor.c is)
