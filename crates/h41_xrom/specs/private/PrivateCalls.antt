-- What the private functions of lines and keys promise one another. No public contract needs this
-- file.
use Rattle.std.specs.Prelude.{◌≡◌, Bool, ◌&&◌, IsTrue, List, [], ◌∷◌, ◌++◌, take, ℕ}
use Rattle.std.specs.Prelude.{Option, Result, Ok, Err}
use Rattle.std.specs.Option.{option_map_or}
use Rattle.h41_codes.specs.declared.line.Line.{Line}
use Rattle.h41_focal.specs.LineStep.{Left}
use Rattle.h41_positions.specs.FocalState.{Machine}
use Rattle.h41_focal.specs.MachineCalls.{left_of}
use Rattle.h41_focal.specs.declared.outcome.LineOutcome.{LineOutcome}
use Rattle.h41_focal.specs.declared.outcome.LineOutcome.TheVariants as outcomes
use Rattle.h41_focal.specs.declared.refusal.FocalRefusal.{FocalRefusal}
use Rattle.h41_keys.specs.StoredLines.{StoresLine}
use Rattle.h41_keys.specs.declared.action.Action.{Action}
use Rattle.h41_keys.specs.declared.action.Action.TheVariants as actions
use Rattle.h41_keys.specs.declared.input.Input.{Input}
use Rattle.h41_keys.specs.declared.key.Key.{Key}
use Rattle.h41_pages.specs.PageMap.{PageMap}
use Rattle.h41_positions.specs.Positions.{LineInPage}
use Rattle.h41_positions.specs.declared.position.PlacedLine.{PlacedLine}
use Rattle.h41_program.specs.LastProgram.{open_in}
use Rattle.h41_program.specs.Lines.{is_inner}
use Rattle.h41_program.specs.ProgramLines.{AnswersOf}
use Rattle.h41_program.specs.Searches.{named_in, position_of}
use Rattle.h41_program.specs.declared.refusal.ProgramRefusal.{ProgramRefusal}
use Rattle.h41_ram.specs.RegisterMap.{RegisterMap, alpha_of, is_sound}
use Rattle.h41_xrom.specs.Calculator.{CalculatorState, of_line}
use Rattle.h41_xrom.specs.KeyActions as spec
use Rattle.h41_xrom.specs.Programs.{Becomes}
use Rattle.h41_xrom.specs.declared.calculator.Mode.{Mode}
use Rattle.h41_xrom.specs.declared.calculator.Mode.TheVariants as modes
use Rattle.h41_xrom.specs.declared.refusal.CalculatorRefusal.{CalculatorRefusal}
use Rattle.h41_xrom.specs.declared.refusal.CalculatorRefusal.TheVariants.{Program}

-- What an action leaves, or its refusal.
abbrev pub acted_as : Machine → Result LineOutcome CalculatorRefusal → Result Left CalculatorRefusal
acted_as new (Ok outcome) = Ok (left_of new outcome)
acted_as new (Err refusal) = Err refusal

-- The result of a line, as that of an action.
abbrev pub line_as : Result LineOutcome FocalRefusal → Result LineOutcome CalculatorRefusal
line_as (Ok outcome) = Ok outcome
line_as (Err refusal) = Err (of_line refusal)

-- The result of an edit, or of a move, as that of an action.
abbrev pub edited_as : Result (Unit {0}) ProgramRefusal → Result LineOutcome CalculatorRefusal
edited_as (Ok done) = Ok outcomes.Done
edited_as (Err refusal) = Err (Program refusal)

-- Memory after an action of letters; other actions do not change it.
abbrev pub lettered : Action → RegisterMap → RegisterMap
lettered actions.ToggleAlpha memory = spec.with_alpha_toggled memory
lettered (actions.BeginText letter) memory = spec.with_letters memory (letter ∷ [])
lettered (actions.AddLetter letter) memory =
    spec.with_letters memory (alpha_of memory ++ letter ∷ [])
lettered actions.TakeLetter memory = spec.with_text memory (take 23 (alpha_of memory))
lettered actions.ClearAlpha memory = spec.with_text memory []
lettered action memory = memory

-- The line that is stored in place of XEQ of a name, or that the line itself is stored.
abbrev pub StoresFor : PageMap → RegisterMap → List ℕ → Option Line → Type 0
StoresFor pages memory name found =
    (label : Option ℕ) × AnswersOf (λ listed. position_of (named_in name listed)) memory 0 label
    × ((line : Line)
    → spec.StoredName pages line name label (option_map_or (λ stored. stored) found line))

-- What an action needs of memory: that it is sound if lines are changed or moved over, and that a
-- line can be stored.
abbrev pub IsActed : Action → RegisterMap → Type 0
IsActed actions.Nothing memory = Unit {0}
IsActed actions.Stop memory = Unit {0}
IsActed (actions.Insert line) memory = IsTrue (is_sound memory) × IsTrue (is_inner line)
IsActed (actions.Replace line) memory = IsTrue (is_sound memory) × IsTrue (is_inner line)
IsActed action memory = IsTrue (is_sound memory)

-- A key that has a meaning is performed, or refused.
abbrev pub Accepts : Key → Input → Action → CalculatorState → CalculatorState
    → Option CalculatorRefusal → Type 0
Accepts key input action s t refusal =
    (made : Result CalculatorState CalculatorRefusal)
    × spec.ActionMakes s key action input made
    × Becomes made s t refusal

-- Whether the line at an address of a page is .END., which is possible only if memory is sound.
abbrev pub IsFinalAt : PageMap → RegisterMap → ℕ → Bool → Type 0
IsFinalAt pages memory address final =
    (first : Result PlacedLine ProgramRefusal)
    × LineInPage pages address first
    × (final ≡ (is_sound memory && spec.is_final first))

-- Whether GTO . . puts an END into memory.
abbrev pub PutsEnd : RegisterMap → Bool → Type 0
PutsEnd memory puts =
    (last : Result Bool ProgramRefusal)
    × AnswersOf open_in memory 0 last
    × (puts ≡ spec.puts_end last)

-- While a program or a function runs, a key does nothing but stop it.
abbrev pub IsQuiet : Mode → Action → Type 0
IsQuiet modes.Idle action = Unit {0}
IsQuiet mode actions.Nothing = Unit {0}
IsQuiet mode actions.Stop = Unit {0}
IsQuiet mode action = ⊥

-- What an accepted key needs.
abbrev pub IsAccepted : CalculatorState → Action → Type 0
IsAccepted s action = StoresLine action × IsQuiet s.mode action
