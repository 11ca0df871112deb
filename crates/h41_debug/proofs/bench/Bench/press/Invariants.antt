use Rattle.std.proofs.Common.{drop, Option}
use Rattle.h41_xrom.specs.declared.refusal.CalculatorRefusal.{CalculatorRefusal}
use Rattle.h41_debug.specs.Bench.{BenchState, PressesInTurn}
use Rattle.h41_debug.specs.KeptInTurn.{KeepsAfterKeys}
use Rattle.h41_debug.specs.LabelledBench.{calculator_of}
use Rattle.h41_xrom.specs.LabelledCalculator.{LabelledCalculator}
use Rattle.h41_debug.proofs.bench.Bench.press.Given as goal

-- The remaining keys, from here on, have the same result as all keys from the start on.
abbrev pub invariant-loop-key : goal.invariant-loop-key
invariant-loop-key g l =
    ((t : BenchState) (refusal : Option CalculatorRefusal)
    → PressesInTurn (drop l.key-index l.fn.keys)
    (record { calculator = l.self-inside.calculator.state; breakpoints = l.self-inside.breakpoints })
    t refusal
    → PressesInTurn l.fn.keys l.fn.self.state t refusal)
    × ((t : LabelledCalculator) → KeepsAfterKeys (drop l.key-index l.fn.keys) l.self-inside.calculator t
    → KeepsAfterKeys l.fn.keys (calculator_of l.fn.self) t)
