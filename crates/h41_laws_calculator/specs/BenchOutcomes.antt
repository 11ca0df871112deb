-- The outcomes of keys and steps in turn, of a run and of a trace.
use Rattle.std.specs.Prelude.{ℕ, List, None, Option}
use Rattle.h41_keys.specs.declared.key.Key.{Key}
use Rattle.h41_xrom.specs.declared.refusal.CalculatorRefusal.{CalculatorRefusal}
use Rattle.h41_debug.specs.Bench.{BenchState, PressesInTurn, Steps}
use Rattle.h41_debug.specs.Run as runs
use Rattle.h41_debug.specs.Traces as traces
use Rattle.h41_debug.specs.Traces.{TellsStep}
use Rattle.h41_debug.specs.declared.run.Stop.{Stop}
use Rattle.h41_laws_words.specs.HasOne.{HasOne}
use Rattle.h41_laws_words.specs.WordAnswers.{HasRegisters}

-- A state and a refusal, or none, are those of steps in turn.
abbrev pub StepsLeave : ℕ → BenchState → BenchState × Option CalculatorRefusal → Type 0
StepsLeave count s left = Steps count s left.0 left.1

-- A state and a refusal, or none, are those of keys in turn.
abbrev pub KeysLeave : List Key → BenchState → BenchState × Option CalculatorRefusal → Type 0
KeysLeave keys s left = PressesInTurn keys s left.0 left.1

-- A state, a count of steps and a reason to stop are those of a run.
abbrev pub RunLeaves : ℕ → BenchState → BenchState × (ℕ × Stop) → Type 0
RunLeaves limit s left = runs.Run limit s left.0 left.1.0 left.1.1

-- A state, a text and a refusal, or none, are those of a trace.
abbrev pub TraceLeaves : ℕ → BenchState → BenchState × (List ℕ × Option CalculatorRefusal) → Type 0
TraceLeaves count s left = traces.Traces count s left.0 left.1.0 left.1.1

-- In each state the next step has exactly one description.
abbrev pub StateHasOneText : Type 0
StateHasOneText = (s : BenchState) → HasOne (TellsStep s)

-- In each state that single steps lead to, A, B and C have 14 digits, as in each bench that can
-- exist.
abbrev pub LeadsToRegisters : BenchState → Type 0
LeadsToRegisters s =
    (made : ℕ) (t : BenchState) → Steps made s t None → HasRegisters t.calculator.nut.processor

-- From such a state so many steps have exactly one outcome.
abbrev pub StepsHaveOneOutcome : Type 0
StepsHaveOneOutcome =
    (count : ℕ) (s : BenchState) → LeadsToRegisters s → HasOne (StepsLeave count s)

-- From such a state a run of any limit has exactly one outcome.
abbrev pub RunHasOneOutcome : Type 0
RunHasOneOutcome = (limit : ℕ) (s : BenchState) → LeadsToRegisters s → HasOne (RunLeaves limit s)

-- From such a state a trace has exactly one outcome.
abbrev pub TraceHasOneOutcome : Type 0
TraceHasOneOutcome =
    (count : ℕ) (s : BenchState) → LeadsToRegisters s → HasOne (TraceLeaves count s)
