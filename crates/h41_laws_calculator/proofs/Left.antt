-- If there is an outcome and there are not two, there is exactly one.
use Rattle.std.proofs.Common.{ℕ, zero, suc, List, [], ◌++◌, Option, refl}
use Rattle.h41_keys.specs.declared.key.Key.{Key}
use Rattle.h41_xrom.specs.declared.refusal.CalculatorRefusal.{CalculatorRefusal}
use Rattle.h41_debug.specs.Bench.{BenchState, PressesInTurn, Steps}
use Rattle.h41_debug.specs.BenchLaws.{PressesAreDetermined, RunsAreDetermined, StatesAreDescribed, StepsAreDetermined, StepsAreTraced}
use Rattle.h41_debug.specs.BenchLaws.{TracesAreDetermined}
use Rattle.h41_debug.specs.Run.{Run}
use Rattle.h41_debug.specs.Traces.{Traces, traced_line}
use Rattle.h41_debug.specs.declared.run.Stop.{Stop}
use Rattle.h41_laws_words.specs.HasOne.{HasOne}
use Rattle.h41_laws_calculator.proofs.Chosen.{one_pair, same_pair}
use Rattle.h41_laws_calculator.specs.BenchOutcomes.{KeysLeave, RunLeaves, StepsLeave, TraceLeaves}

pub one_of_steps : StepsAreDetermined → (count : ℕ) (s t : BenchState) (refusal : Option CalculatorRefusal) → Steps count s t refusal
    → HasOne (StepsLeave count s)
one_of_steps determined count s t refusal steps =
    one_pair (StepsLeave count s) (t, refusal) steps (λ other again. determined count s other.0 t other.1 refusal again steps)

pub one_of_keys : PressesAreDetermined → (keys : List Key) (s t : BenchState) (refusal : Option CalculatorRefusal)
    → PressesInTurn keys s t refusal → HasOne (KeysLeave keys s)
one_of_keys determined keys s t refusal presses =
    one_pair (KeysLeave keys s) (t, refusal) presses (λ other again. determined keys s other.0 t other.1 refusal again presses)

pub one_of_runs : RunsAreDetermined → (limit : ℕ) (s t : BenchState) (made : ℕ) (why : Stop) → Run limit s t made why
    → HasOne (RunLeaves limit s)
one_of_runs determined limit s t made why run = one_pair (RunLeaves limit s) (t, (made, why)) run (λ other again.
    let same = determined limit s other.0 t other.1.0 made other.1.1 why again run in
    (same.0, same_pair other.1 (made, why) same.1 same.2))

-- A trace of steps.
abbrev Traced : ℕ → BenchState → BenchState → Option CalculatorRefusal → Type 0
Traced count s t refusal = (lines : List ℕ) × Traces count s t lines refusal

traced : StatesAreDescribed → StepsAreTraced → (count : ℕ) (s t : BenchState) (refusal : Option CalculatorRefusal) → Steps count s t refusal
    → Traced count s t refusal
traced told traces zero s t refusal steps = ([], (steps.0, refl, steps.1))
traced told traces (suc count) s t refusal steps =
    let text = told s in let rest = traces count s t text.0 refusal text.1 steps in (traced_line text.0 ++ rest.0, rest.1)

pub one_of_traces : StatesAreDescribed → StepsAreTraced → TracesAreDetermined → (count : ℕ) (s t : BenchState)
    (refusal : Option CalculatorRefusal) → Steps count s t refusal → HasOne (TraceLeaves count s)
one_of_traces told traces determined count s t refusal steps =
    let of = traced told traces count s t refusal steps in
    one_pair (TraceLeaves count s) (t, (of.0, refusal)) of.1 (λ other again.
    let same = determined count s other.0 t other.1.0 of.0 other.1.1 refusal again of.1 in
    (same.0, same_pair other.1 (of.0, refusal) same.1 same.2))
