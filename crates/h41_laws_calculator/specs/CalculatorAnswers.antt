-- A step, a load, a new size and the display have a result.
use Rattle.std.specs.Prelude.{◌≡◌, ℕ, List, MatchOption, None, Option}
use Rattle.h41_xrom.specs.Calculator.{CalculatorState, RefusesStep, Step}
use Rattle.h41_xrom.specs.Display.{ShowsDisplay}
use Rattle.h41_xrom.specs.Programs.{Becomes, Loads, size_makes}
use Rattle.h41_xrom.specs.declared.refusal.CalculatorRefusal.{CalculatorRefusal}
use Rattle.h41_laws_words.specs.HasOne.{HasOne}
use Rattle.h41_laws_words.specs.WordAnswers.{HasRegisters}

-- A step has exactly one refusal, or none, from any state.
abbrev pub StepHasOneRefusal : Type 0
StepHasOneRefusal = (s : CalculatorState) → HasOne (RefusesStep s)

-- If it has none, it leaves exactly one state.
abbrev pub AcceptedStepHasOneState : Type 0
AcceptedStepHasOneState =
    (s : CalculatorState) → HasRegisters s.nut.processor → RefusesStep s None → HasOne (Step s)

-- A refusal and a state are those of a step. If it is refused, nothing changes.
abbrev pub StepLeaves : CalculatorState → Option CalculatorRefusal × CalculatorState → Type 0
StepLeaves s left =
    RefusesStep s left.0 × MatchOption left.0 (Step s left.1) (λ why. left.1 ≡ s)

-- A step has exactly one outcome: a refusal and a state.
abbrev pub StepHasOneOutcome : Type 0
StepHasOneOutcome =
    (s : CalculatorState) → HasRegisters s.nut.processor → HasOne (StepLeaves s)

-- A state and a refusal are those of a load.
abbrev pub LoadLeaves : List ℕ → CalculatorState → CalculatorState × Option CalculatorRefusal
    → Type 0
LoadLeaves bytes s left = Loads bytes s left.0 left.1

-- A state and a refusal are those of a new size.
abbrev pub SizeLeaves : ℕ → CalculatorState → CalculatorState × Option CalculatorRefusal → Type 0
SizeLeaves count s left = Becomes (size_makes s count) s left.0 left.1

-- Any bytes are loaded in one way, or refused.
abbrev pub LoadHasOneOutcome : Type 0
LoadHasOneOutcome = (bytes : List ℕ) (s : CalculatorState) → HasOne (LoadLeaves bytes s)

-- Any number of data registers is set in one way, or refused.
abbrev pub SizeHasOneOutcome : Type 0
SizeHasOneOutcome = (count : ℕ) (s : CalculatorState) → HasOne (SizeLeaves count s)

-- The display shows exactly one text.
abbrev pub DisplayHasOneText : Type 0
DisplayHasOneText = (s : CalculatorState) → HasOne (ShowsDisplay s)
