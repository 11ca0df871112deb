use Rattle.std.proofs.Common.{◌≡◌, ◌≤◌, ◌-◌, false}
use Rattle.std.specs.FinSet.{len}
use Rattle.h41_debug.specs.KeptInTurn.{KeepsAfterSteps}
use Rattle.h41_debug.specs.LabelledBench.{calculator_of}
use Rattle.h41_debug.specs.private.Advancing.{MakesSteps}
use Rattle.h41_debug.proofs.bench.Bench.advance.Given as goal

-- So many steps were made, and if breakpoints are not tested, none is set.
abbrev pub invariant-loop-stop : goal.invariant-loop-stop
invariant-loop-stop g l =
    MakesSteps l.fn.limit l.made l.fn.self.state
    l.self.state × (l.made ≤ l.fn.limit) × (l.watched ≡ false → len l.self.state.breakpoints ≡ 0)
    × KeepsAfterSteps l.made (calculator_of l.fn.self) (calculator_of l.self)

abbrev pub decreases-loop-stop : goal.decreases-loop-stop
decreases-loop-stop g l = l.fn.limit - l.made
