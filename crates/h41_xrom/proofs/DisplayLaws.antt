-- Why a state determines the text of the display.
use Rattle.std.proofs.Common.{◌≡◌, ℕ, Bool, true, false, List, [], Option, Some, None, sym, ap, ◌∙◌}
use Rattle.std.specs.Prelude.{◌++◌, MatchBool}
use Rattle.h41_editor.specs.EditorLaws.{TextIsDetermined}
use Rattle.h41_positions.specs.FocalState.{Machine}
use Rattle.h41_keys.specs.declared.input.TypedEntry.{TypedEntry}
use Rattle.h41_keys.specs.declared.prompt.Prompt.{Prompt}
use Rattle.h41_pages.specs.PageMap.{PageMap}
use Rattle.h41_xrom.specs.Calculator.{CalculatorState, machine_of}
use Rattle.h41_xrom.specs.CalculatorLaws.{DisplayIsDetermined}
use Rattle.h41_xrom.specs.Display.{ShowsMessage, ShowsPrompt, ShowsShownLine, cursor_of, entry_text}

module _ (same_program : TextIsDetermined) where
  same_shown : (pages : PageMap) (machine : Machine) (entry : TypedEntry) (a b : List ℕ) → ShowsShownLine pages machine entry a
      → ShowsShownLine pages machine entry b → a ≡ b
  same_shown pages machine entry a b (p, p_shows, p_is) (q, q_shows, q_is) =
      p_is ∙ ap (λ (of : List ℕ). of ++ cursor_of entry) (same_program pages machine p q p_shows q_shows) ∙ sym q_is

  same_entry : (program_mode : Bool) (s : CalculatorState) (a b : List ℕ)
      → MatchBool program_mode (ShowsShownLine s.nut.pages (machine_of s) s.input.entry a) (a ≡ entry_text s.nut.ram s.input.entry)
      → MatchBool program_mode (ShowsShownLine s.nut.pages (machine_of s) s.input.entry b) (b ≡ entry_text s.nut.ram s.input.entry) → a ≡ b
  same_entry true s a b p q = same_shown s.nut.pages (machine_of s) s.input.entry a b p q
  same_entry false s a b p q = p ∙ sym q

  same_prompt : (prompt : Option Prompt) (s : CalculatorState) (a b : List ℕ) → ShowsPrompt s prompt a → ShowsPrompt s prompt b → a ≡ b
  same_prompt (Some prompt) s a b p q = p ∙ sym q
  same_prompt None s a b p q = same_entry s.input.program_mode s a b p q

  same_message : (message : Option (List ℕ)) (s : CalculatorState) (a b : List ℕ) → ShowsMessage s message a → ShowsMessage s message b
      → a ≡ b
  same_message (Some message) s a b p q = p ∙ sym q
  same_message None s a b p q = same_prompt s.input.prompt s a b p q

  same_display : (on : Bool) (s : CalculatorState) (a b : List ℕ)
      → MatchBool on (ShowsMessage s s.message a) (a ≡ []) → MatchBool on (ShowsMessage s s.message b) (b ≡ []) → a ≡ b
  same_display true s a b p q = same_message s.message s a b p q
  same_display false s a b p q = p ∙ sym q

  pub display_determined : DisplayIsDetermined
  display_determined s a b p q = same_display s.nut.processor.display s a b p q
