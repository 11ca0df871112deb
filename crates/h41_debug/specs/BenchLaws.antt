-- What holds of single steps, of keys in turn, of runs and of traces, whatever the code does.
use Rattle.std.specs.Prelude.{◌≡◌, ℕ, suc, ◌+◌, false, List, ◌++◌, Option, Some, None}
use Rattle.h41_keys.specs.declared.key.Key.{Key}
use Rattle.h41_xrom.specs.Calculator.{CalculatorState, RefusesStep, Step, is_idle}
use Rattle.h41_xrom.specs.declared.refusal.CalculatorRefusal.{CalculatorRefusal}
use Rattle.h41_debug.specs.Bench.{BenchState, PressesInTurn, Steps, with_calculator}
use Rattle.h41_debug.specs.Run.{Run}
use Rattle.h41_debug.specs.Traces.{TellsStep, Traces, traced_line}
use Rattle.h41_debug.specs.declared.run.Stop.{Stop}
use Rattle.h41_debug.specs.declared.run.Stop.TheVariants.{Limit, Refused}

-- A state determines the state after so many steps, and their refusal.
abbrev pub StepsAreDetermined : Type 0
StepsAreDetermined =
    (count : ℕ) (s t u : BenchState) (refusal other : Option CalculatorRefusal)
    → Steps count s t refusal → Steps count s u other → (t ≡ u) × (refusal ≡ other)

-- A state determines the state after keys in turn, and their refusal.
abbrev pub PressesAreDetermined : Type 0
PressesAreDetermined =
    (keys : List Key) (s t u : BenchState) (refusal other : Option CalculatorRefusal)
    → PressesInTurn keys s t refusal → PressesInTurn keys s u other → (t ≡ u) × (refusal ≡ other)

-- A state determines how many steps its run makes, the state after it, and why it stops.
abbrev pub RunsAreDetermined : Type 0
RunsAreDetermined =
    (limit : ℕ) (s t u : BenchState) (made count : ℕ) (why other : Stop)
    → Run limit s t made why → Run limit s u count other → (t ≡ u) × (made ≡ count) × (why ≡ other)

-- A run that ended at its limit, and a run that continues from there, are together one run with the
-- sum of the limits.
abbrev pub RunsAddUp : Type 0
RunsAddUp =
    (limit more : ℕ) (s t u : BenchState) (made count : ℕ) (why : Stop)
    → Run limit s t made Limit → Run more t u count why → Run (limit + more) s u (made + count) why

-- If something runs, a single step is a run of one step, whatever that run stops for.
abbrev pub StepIsRun : Type 0
StepIsRun =
    (s : BenchState) (next : CalculatorState) → is_idle s.calculator.mode ≡ false
    → RefusesStep s.calculator None → Step s.calculator next
    → (why : Stop) × Run 1 s (with_calculator next s) 1 why

-- If something runs, a refused step is a run of no step.
abbrev pub RefusedStepIsRun : Type 0
RefusedStepIsRun =
    (s : BenchState) (why : CalculatorRefusal) → is_idle s.calculator.mode ≡ false
    → RefusesStep s.calculator (Some why)
    → Run 1 s s 0 (Refused why)

-- A state determines the text of its trace, the state after it, and its refusal.
abbrev pub TracesAreDetermined : Type 0
TracesAreDetermined =
    (count : ℕ) (s t u : BenchState) (lines text : List ℕ)
    (refusal other : Option CalculatorRefusal)
    → Traces count s t lines refusal → Traces count s u text other
    → (t ≡ u) × (lines ≡ text) × (refusal ≡ other)

-- The next step of every state can be described.
abbrev pub StatesAreDescribed : Type 0
StatesAreDescribed = (s : BenchState) → (text : List ℕ) × TellsStep s text

-- Steps that were made have a trace, whose first line describes the first step.
abbrev pub StepsAreTraced : Type 0
StepsAreTraced =
    (count : ℕ) (s t : BenchState) (text : List ℕ) (refusal : Option CalculatorRefusal)
    → TellsStep s text → Steps (suc count) s t refusal
    → (rest : List ℕ) × Traces (suc count) s t (traced_line text ++ rest) refusal

-- A trace makes its steps.
abbrev pub TracesAreSteps : Type 0
TracesAreSteps =
    (count : ℕ) (s t : BenchState) (lines : List ℕ) (refusal : Option CalculatorRefusal)
    → Traces count s t lines refusal → Steps count s t refusal
