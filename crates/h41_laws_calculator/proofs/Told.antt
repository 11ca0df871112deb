-- The next step has exactly one description.
use Rattle.std.proofs.Common.{◌≡◌, ℕ, Bool, true, false, List, ◌++◌, codes, Result, MatchBool, refl}
use Rattle.h41_breakpoints.specs.declared.location.Location.{Location}
use Rattle.h41_breakpoints.specs.declared.location.Location.TheVariants.{Line, Word}
use Rattle.h41_debug.specs.Positions.{location_of, position_text}
use Rattle.h41_debug.specs.Traces.{TellsAt, instruction_at, line_or_unknown, unknown_text}
use Rattle.h41_pages.specs.PageMap.{PageMap}
use Rattle.h41_positions.specs.Positions.{LineAt}
use Rattle.h41_positions.specs.declared.position.PlacedLine.{PlacedLine}
use Rattle.h41_positions.specs.declared.position.Position.{Position}
use Rattle.h41_program.specs.declared.refusal.ProgramRefusal.{ProgramRefusal}
use Rattle.h41_ram.specs.RegisterMap.{RegisterMap, is_sound}
use Rattle.h41_xrom.specs.Calculator.{CalculatorState}
use Rattle.h41_laws_words.specs.HasOne.{HasOne}
use Rattle.h41_laws_calculator.proofs.Chosen.{one_made}
use Rattle.h41_laws_calculator.specs.ProgramAnswers.{PositionHasOne}
use Rattle.h41_laws_calculator.specs.BenchOutcomes.{StateHasOneText}

module _ (lines : PositionHasOne LineAt) where
  told_if : (sound : Bool) (pages : PageMap) (memory : RegisterMap) (at : Position)
      → HasOne (λ text. MatchBool sound
      ((answer : Result PlacedLine ProgramRefusal) × LineAt pages memory at answer × (text ≡ line_or_unknown answer))
      (text ≡ unknown_text))
  told_if true pages memory at = one_made line_or_unknown (lines pages memory at)
  told_if false pages memory at = record { answer = unknown_text; right = refl; only = λ other is. is }

  told_at : (location : Location) (s : CalculatorState) → HasOne (TellsAt location s)
  told_at (Word address) s = record { answer = instruction_at s.nut.pages address; right = refl; only = λ other is. is }
  told_at (Line position) s =
      let text = told_if (is_sound s.nut.ram) s.nut.pages s.nut.ram position in
      record { answer = text.answer; right = text.right; only = text.only }

  pub one_told : StateHasOneText
  one_told s = one_made (λ (text : List ℕ). position_text s ++ codes " " ++ text) (told_at (location_of s.calculator) s.calculator)
