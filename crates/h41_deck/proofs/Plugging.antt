-- The answer to plugging a page, in the terms of a deck.
use Rattle.std.proofs.Common.{◌≡◌, ◌≤◌, ℕ, ◌-◌, Bool, List, ◌++◌, length, take, replicate, Some, None, Ok, inl, inr, sym, ap, subst}
use Rattle.std.proofs.Common.{◌∙◌, arith}
use Rattle.std.proofs.lemmas.List.{take_all}
use Rattle.std.specs.Prelude.{option_map}
use Rattle.h41_pages.specs.Addresses.{page_size}
use Rattle.h41_pages.specs.PageMap.{PageMap, RefusesPlug, plug_refusal}
use Rattle.h41_pages.specs.declared.refusal.PlugRefusal.{PlugRefusal}
use Rattle.h41_pages.specs.declared.refusal.PlugRefusal.TheVariants as plugs
use Rattle.h41_commands.specs.Blocks.{page_of_words}
use Rattle.h41_debug.specs.Bench.{BenchState, with_calculator}
use Rattle.h41_xrom.specs.Calculator.{CalculatorState, RefusesPage, TakesPage, with_page}
use Rattle.h41_deck.specs.Answers.{ends_by}
use Rattle.h41_refusals.specs.Pages.{of_plug, page_refusal}
use Rattle.h41_deck.specs.Replies.{PlugsWords, block_refusal, state_unless, with_words}

-- What `resize` makes of a page's words.
pub resized : (values items : List ℕ) (count : ℕ) → count ≡ length values → count ≤ page_size
    → items ≡ take page_size values ++ replicate (page_size - count) 0 → items ≡ page_of_words values
resized values items count same room e =
    let short : length values ≤ page_size = omega arith in
    e ∙ (λ i. take_all page_size values short i ++ replicate (page_size - same i) 0)

-- A page that is refused for another reason than failed allocation.
pub refused_page : (all : PageMap) (page bank : ℕ) (words page_of_words : List ℕ) (why : PlugRefusal) → words ≡ page_of_words
    → RefusesPlug all page bank words why → (why ≡ plugs.OutOfMemory → ⊥)
    → Some (of_plug why) ≡ page_refusal all page bank page_of_words
refused_page all page bank words page_of_words why same (inl e) other =
    sym (ap (option_map of_plug) (ap (plug_refusal all page bank) (sym same) ∙ e))
refused_page all page bank words page_of_words why same (inr e) other = absurd (other e.1)

pub accepted_page : (all : PageMap) (page bank : ℕ) (words page_of_words : List ℕ) → words ≡ page_of_words
    → plug_refusal all page bank words ≡ None → None ≡ page_refusal all page bank page_of_words
accepted_page all page bank words page_of_words same e = sym (ap (option_map of_plug) (ap (plug_refusal all page bank) (sym same) ∙ e))

-- How plugging words changes the bench.
module _ (s : BenchState) (page bank : ℕ) (writable : Bool) (words items : List ℕ) (from c : CalculatorState)
    (is : from ≡ s.calculator) (same : items ≡ page_of_words words) where
  pub plugs_done : TakesPage from page bank items → c ≡ with_page page bank writable items from
      → PlugsWords page bank writable (Ok words) s (with_calculator c s) (ends_by None)
  plugs_done taken changed =
      let accepted : None ≡ block_refusal s page bank words =
      accepted_page s.calculator.nut.pages page bank items (page_of_words words) same
      (subst (λ (of : CalculatorState). TakesPage of page bank items) is taken) in (
        ap (λ d. with_calculator d s) (changed ∙ (λ i. with_page page bank writable (same i) (is i)))
            ∙ ap (λ why. state_unless why (with_words page bank writable words s) s) accepted,
        ap ends_by accepted,
      )

  pub plugs_refused : (why : PlugRefusal) → RefusesPage from page bank items why → (why ≡ plugs.OutOfMemory → ⊥) → c ≡ from
      → PlugsWords page bank writable (Ok words) s (with_calculator c s) (ends_by (Some (of_plug why)))
  plugs_refused why refuses other stays =
      let refused : Some (of_plug why) ≡ block_refusal s page bank words =
      refused_page s.calculator.nut.pages page bank items (page_of_words words) why same
      (subst (λ (of : CalculatorState). RefusesPage of page bank items why) is refuses) other in (
        ap (λ d. with_calculator d s) (stays ∙ is) ∙ ap (λ why. state_unless why (with_words page bank writable words s) s) refused,
        ap ends_by refused,
      )
