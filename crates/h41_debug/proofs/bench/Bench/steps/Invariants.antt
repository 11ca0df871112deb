use Rattle.std.proofs.Common.{◌≡◌, ◌+◌, ℕ, Option}
use Rattle.h41_xrom.specs.declared.refusal.CalculatorRefusal.{CalculatorRefusal}
use Rattle.h41_debug.specs.Bench.{BenchState, Steps}
use Rattle.h41_debug.specs.KeptInTurn.{KeepsAfterSteps}
use Rattle.h41_debug.specs.LabelledBench.{calculator_of}
use Rattle.h41_debug.proofs.bench.Bench.steps.Given as goal

-- The remaining steps, from here on, have the same result as all steps from the start on.
abbrev pub invariant-loop-left : goal.invariant-loop-left
invariant-loop-left g l =
    ((t : BenchState) (refusal : Option CalculatorRefusal) → Steps l.left l.self.state t refusal → Steps l.fn.count l.fn.self.state t
    refusal)
    × (made : ℕ) × (made + l.left ≡ l.fn.count) × KeepsAfterSteps made (calculator_of l.fn.self) (calculator_of l.self)

abbrev pub decreases-loop-left : goal.decreases-loop-left
decreases-loop-left g l = l.left
