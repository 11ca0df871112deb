-- What holds of every step, every load, every key and the display, whatever the code does.
use Rattle.std.specs.Prelude.{◌≡◌, ℕ, Bool, true, false, All, IsTrue, List, [], ◌∷◌, Option}
use Rattle.h41_codes.specs.declared.line.Line.{Line}
use Rattle.h41_focal.specs.LineLaws.{AreAlike, GoesToNext, IsAt, TypesInTurn}
use Rattle.h41_positions.specs.FocalState.{Machine}
use Rattle.h41_keys.specs.declared.key.Key.{Key}
use Rattle.h41_xrom.specs.declared.refusal.CalculatorRefusal.{CalculatorRefusal}
use Rattle.h41_xrom.specs.Calculator.{CalculatorState, RefusesStep, Step, machine_of}
use Rattle.h41_xrom.specs.Display.{ShowsDisplay}
use Rattle.h41_xrom.specs.KeyActions.{Presses}
use Rattle.h41_xrom.specs.Programs.{Loads}
use Rattle.h41_xrom.specs.declared.calculator.Mode.{Mode}
use Rattle.h41_xrom.specs.declared.calculator.Mode.TheVariants as modes

-- A state determines whether its step is refused, and as what.
abbrev pub StepRefusalIsDetermined : Type 0
StepRefusalIsDetermined =
    (s : CalculatorState) (refusal other : Option CalculatorRefusal) → RefusesStep s refusal
    → RefusesStep s other → refusal ≡ other

-- A state determines the state after its step.
abbrev pub StepIsDetermined : Type 0
StepIsDetermined = (s t u : CalculatorState) → Step s t → Step s u → t ≡ u

-- A state and the bytes determine the state after a load, and its refusal.
abbrev pub LoadIsDetermined : Type 0
LoadIsDetermined =
    (bytes : List ℕ) (s t u : CalculatorState) (refusal other : Option CalculatorRefusal)
    → Loads bytes s t refusal → Loads bytes s u other → (t ≡ u) × (refusal ≡ other)

-- A state and a key determine the state after it, and its refusal.
abbrev pub KeyIsDetermined : Type 0
KeyIsDetermined =
    (key : Key) (s t u : CalculatorState) (refusal other : Option CalculatorRefusal)
    → Presses key s t refusal → Presses key s u other → (t ≡ u) × (refusal ≡ other)

-- A state determines the text of the display.
abbrev pub DisplayIsDetermined : Type 0
DisplayIsDetermined =
    (s : CalculatorState) (text other : List ℕ) → ShowsDisplay s text → ShowsDisplay s other
    → text ≡ other

-- A step in this mode is a line, and not a word of a function.
abbrev pub takes_lines : Mode → Bool
takes_lines modes.Idle = true
takes_lines modes.Run = true
takes_lines (modes.Micro caller) = false

-- The calculator steps these lines in turn; each is at the position that the one before it left.
abbrev pub StepsLines : List Line → CalculatorState → CalculatorState → Type 0
StepsLines [] s t = t ≡ s
StepsLines (line ∷ lines) s t =
    IsAt s.nut.pages line (machine_of s)
    × (next : CalculatorState) × Step s next × StepsLines lines next t

-- Lines that go on to the next line leave the same stack, data registers, ALPHA, flags and stack
-- lift if they are typed in turn as if the calculator steps them.
abbrev pub TypedAsStepped : Type 0
TypedAsStepped =
    (lines : List Line) (s t : CalculatorState) (other typed : Machine)
    → IsTrue (takes_lines s.mode) → All GoesToNext lines → AreAlike (machine_of s) other
    → StepsLines lines s t → TypesInTurn s.nut.pages lines other typed
    → AreAlike (machine_of t) typed
