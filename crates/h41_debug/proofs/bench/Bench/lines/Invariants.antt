use Rattle.std.proofs.Common.{◌≡◌, false, None, nat_lt}
use Rattle.h41_debug.specs.private.Advancing.{MakesSteps}
use Rattle.h41_debug.specs.Bench.{BenchState}
use Rattle.h41_debug.specs.KeptInTurn.{KeepsAfterSteps}
use Rattle.h41_debug.specs.LabelledBench.{calculator_of}
use Rattle.h41_xrom.specs.LabelledCalculator.{LabelledCalculator}
use Rattle.h41_debug.specs.private.Running.{runs_function, stop_after}
use Rattle.h41_debug.proofs.bench.Bench.lines.Given as goal

-- So many steps were made, no function runs, and there is no reason to stop.
abbrev pub invariant-loop-made : goal.invariant-loop-made
invariant-loop-made g l =
    ((start : BenchState) → MakesSteps l.fn.limit l.fn.from start l.fn.self.state → MakesSteps l.fn.limit l.made start l.self.state)
    × (stop_after (nat_lt 0 l.made) l.self.state ≡ None)
    × (runs_function l.self.state.calculator.mode ≡ false)
    × (l.self.state.breakpoints ≡ l.fn.self.state.breakpoints)
    × ((start : LabelledCalculator) → KeepsAfterSteps l.fn.from start (calculator_of l.fn.self)
    → KeepsAfterSteps l.made start (calculator_of l.self))
