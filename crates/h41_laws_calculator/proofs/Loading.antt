-- The result of a load and of a new size, and the text of the display.
use Rattle.std.proofs.Common.{◌≡◌, ℕ, List, [], Option, Some, None, Result, Err, MatchOption, refl}
use Rattle.std.specs.Prelude.{◌++◌}
use Rattle.std.specs.Result.{result_err, result_unwrap_or}
use Rattle.h41_editor.specs.ProgramText.{ShowsProgram}
use Rattle.h41_positions.specs.FocalState.{Machine}
use Rattle.h41_keys.specs.declared.input.TypedEntry.{TypedEntry}
use Rattle.h41_keys.specs.declared.prompt.Prompt.{Prompt}
use Rattle.h41_pages.specs.PageMap.{PageMap}
use Rattle.h41_program.specs.Edits.{LoadGives}
use Rattle.h41_program.specs.declared.refusal.ProgramRefusal.{ProgramRefusal}
use Rattle.h41_ram.specs.RegisterMap.{RegisterMap}
use Rattle.h41_xrom.specs.Calculator.{CalculatorState, machine_of}
use Rattle.h41_xrom.specs.CalculatorLaws.{DisplayIsDetermined, LoadIsDetermined}
use Rattle.h41_xrom.specs.Display.{ShowsDisplay, ShowsEntry, ShowsMessage, ShowsPrompt, ShowsShownLine, cursor_of, entry_text, shown_prompt}
use Rattle.h41_xrom.specs.Programs.{Becomes, LoadMakes, after_load, change_refusal, size_makes}
use Rattle.h41_xrom.specs.declared.refusal.CalculatorRefusal.{CalculatorRefusal}
use Rattle.h41_laws_words.proofs.Answering.{Has, has_one}
use Rattle.h41_laws_calculator.specs.ProgramChanges.{LoadHasOneOutcome}
use Rattle.h41_laws_calculator.specs.CalculatorAnswers as answers
use Rattle.h41_laws_calculator.specs.CalculatorAnswers.{DisplayHasOneText, SizeHasOneOutcome}
use Rattle.h41_laws_calculator.proofs.Chosen.{alone, either, made_of, one_pair, one_there, same_pair}

-- What was made, as a state and a refusal.
abbrev Left : Type 0
Left = CalculatorState × Option CalculatorRefusal

pub becomes : Result CalculatorState CalculatorRefusal → CalculatorState → Left
becomes made s = (result_unwrap_or made s, result_err made)

pub becomes-right : (made : Result CalculatorState CalculatorRefusal) (s : CalculatorState)
    → Becomes made s (becomes made s).0 (becomes made s).1
unfolding becomes
becomes-right made s = (refl, refl)

pub only_becomes : (made : Result CalculatorState CalculatorRefusal) (s : CalculatorState) (other : Left)
    → Becomes made s other.0 other.1 → other ≡ becomes made s
unfolding becomes
only_becomes made s other is = same_pair other (becomes made s) is.0 is.1

pub one_size : SizeHasOneOutcome
one_size count s = record {
  answer = becomes (size_makes s count) s;
  right = becomes-right (size_makes s count) s;
  only = only_becomes (size_makes s count) s;
}

-- A load.
module _ (loads : LoadHasOneOutcome) where
  abbrev Made : CalculatorState → List ℕ → Result CalculatorState CalculatorRefusal → Type 0
  Made s bytes made =
      (outcome : Result (RegisterMap × ℕ) ProgramRefusal) × LoadGives s.nut.ram bytes outcome × (made ≡ after_load s outcome)

  makes_by : (why : Option CalculatorRefusal) (s : CalculatorState) (bytes : List ℕ)
      → Has (λ made. MatchOption why (Made s bytes made) (λ why. made ≡ Err why))
  makes_by None s bytes = made_of (after_load s) (one_there (loads s.nut.ram bytes))
  makes_by (Some why) s bytes = alone (Err why)

  makes : (s : CalculatorState) (bytes : List ℕ) → Has (LoadMakes s bytes)
  makes s bytes = let made = makes_by (change_refusal s) s bytes in record { answer = made.answer; right = made.right }

  pub one_load : LoadIsDetermined → answers.LoadHasOneOutcome
  one_load determined bytes s =
      let made = makes s bytes in
      let right : answers.LoadLeaves bytes s (becomes made.answer s) = (made.answer, made.right, becomes-right made.answer s) in
      one_pair (answers.LoadLeaves bytes s) (becomes made.answer s) right
      (λ other again. determined bytes s other.0 (becomes made.answer s).0 other.1 (becomes made.answer s).1 again right)

-- The display.
module _ (programs : (pages : PageMap) (machine : Machine) → Has (ShowsProgram pages machine)) where
  shown_line : (pages : PageMap) (machine : Machine) (entry : TypedEntry) → Has (ShowsShownLine pages machine entry)
  shown_line pages machine entry = made_of (λ found. found ++ cursor_of entry) (programs pages machine)

  shown_entry : (s : CalculatorState) → Has (ShowsEntry s)
  shown_entry s =
      either s.input.program_mode (ShowsShownLine s.nut.pages (machine_of s) s.input.entry)
      (λ text. text ≡ entry_text s.nut.ram s.input.entry)
      (shown_line s.nut.pages (machine_of s) s.input.entry) (alone (entry_text s.nut.ram s.input.entry))

  shows_prompt : (s : CalculatorState) (prompt : Option Prompt) → Has (ShowsPrompt s prompt)
  shows_prompt s (Some prompt) = alone (shown_prompt prompt)
  shows_prompt s None = shown_entry s

  shows_message : (s : CalculatorState) (message : Option (List ℕ)) → Has (ShowsMessage s message)
  shows_message s (Some message) = alone message
  shows_message s None = shows_prompt s s.input.prompt

  shows : (s : CalculatorState) → Has (ShowsDisplay s)
  shows s = either s.nut.processor.display (ShowsMessage s s.message) (λ text. text ≡ []) (shows_message s s.message) (alone [])

  pub one_text : DisplayIsDetermined → DisplayHasOneText
  one_text determined s = has_one (shows s) (determined s)
