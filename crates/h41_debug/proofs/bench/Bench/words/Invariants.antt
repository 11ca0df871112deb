use Rattle.std.proofs.Common.{◌≡◌, ◌<◌, ◌≤◌, ◌-◌, None, nat_lt}
use Rattle.h41_xrom.specs.declared.calculator.Mode.TheVariants.{Micro}
use Rattle.h41_debug.specs.private.Advancing.{MakesSteps}
use Rattle.h41_debug.specs.Bench.{BenchState}
use Rattle.h41_debug.specs.KeptInTurn.{KeepsAfterSteps}
use Rattle.h41_debug.specs.LabelledBench.{calculator_of}
use Rattle.h41_xrom.specs.LabelledCalculator.{LabelledCalculator}
use Rattle.h41_debug.specs.private.Running.{stop_after}
use Rattle.h41_debug.proofs.bench.Bench.words.Given as goal

-- So many steps were made, the function runs, and there is no reason to stop.
abbrev pub invariant-loop-made : goal.invariant-loop-made
invariant-loop-made g l =
    ((start : BenchState) → MakesSteps l.fn.limit l.fn.from start l.fn.self.state → MakesSteps l.fn.limit l.made start l.self.state)
    × (stop_after (nat_lt 0 l.made) l.self.state ≡ None)
    × (l.self.state.calculator.mode ≡ Micro l.fn.caller)
    × (l.self.state.breakpoints ≡ l.fn.self.state.breakpoints)
    × (l.fn.from ≤ l.made) × (l.made ≤ l.fn.limit)
    × ((start : LabelledCalculator) → KeepsAfterSteps l.fn.from start (calculator_of l.fn.self)
    → KeepsAfterSteps l.made start (calculator_of l.self))

abbrev pub decreases-loop-made : goal.decreases-loop-made
decreases-loop-made g l = l.fn.limit - l.made

-- The same before each word; after the last one a breakpoint may be set.
abbrev pub invariant-loop-word : goal.invariant-loop-word
invariant-loop-word g l =
    ((start : BenchState) → MakesSteps l.fn.limit l.fn.from start l.fn.self.state → MakesSteps l.fn.limit l.word start l.self.state)
    × (l.word < l.until → stop_after (nat_lt 0 l.word) l.self.state ≡ None)
    × (l.self.state.calculator.mode ≡ Micro l.fn.caller)
    × (l.self.state.breakpoints ≡ l.fn.self.state.breakpoints)
    × ((start : LabelledCalculator) → KeepsAfterSteps l.fn.from start (calculator_of l.fn.self)
    → KeepsAfterSteps l.word start (calculator_of l.self))
