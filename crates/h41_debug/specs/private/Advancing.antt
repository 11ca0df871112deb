-- What the loops that make single steps promise one another. No public contract needs this file.
use Rattle.std.specs.Prelude.{◌≡◌, ◌<◌, ◌≤◌, ℕ, false, nat_lt, Option, Some, None, MatchOption}
use Rattle.h41_xrom.specs.declared.refusal.CalculatorRefusal.{CalculatorRefusal}
use Rattle.h41_xrom.specs.Calculator.{RefusesStep, is_idle}
use Rattle.h41_xrom.specs.LabelledCalculator.{LabelledCalculator}
use Rattle.h41_debug.specs.Bench.{BenchState, Steps}
use Rattle.h41_debug.specs.KeptInTurn.{KeepsAfterSteps, KeepsAfterTries}
use Rattle.h41_debug.specs.Run.{StopsFor}
use Rattle.h41_debug.specs.private.Running.{stop_after}
use Rattle.h41_debug.specs.declared.run.Stop.{Stop}
use Rattle.h41_debug.specs.declared.run.Stop.TheVariants.{Break, Idle, Limit, Refused}

-- Something holds if something runs.
abbrev pub IfRunning : BenchState → Type 0 → Type 0
IfRunning s holds = is_idle s.calculator.mode ≡ false → holds

-- There was no reason to stop after fewer steps.
abbrev pub NoneBefore : ℕ → ℕ → BenchState → Type 0
NoneBefore limit made s =
    (fewer : ℕ) (u : BenchState) (other : Stop) → fewer < made → Steps fewer s u None
    → StopsFor limit fewer u other → ⊥

-- So many steps were made, the first of them in any state. If something ran, there was no reason to
-- stop after fewer.
pub record MakesSteps (limit made : ℕ) (s t : BenchState) : Type 0 where
  pub steps : Steps made s t None
  pub before : IfRunning s (NoneBefore limit made s)

-- Why such steps end after so many, of at most a limit.
abbrev pub EndsFor : ℕ → ℕ → BenchState → Stop → Type 0
EndsFor limit made t Idle = 1 ≤ made
EndsFor limit made t Break = 1 ≤ made
EndsFor limit made t Limit = made ≡ limit
EndsFor limit made t (Refused refusal) = (made < limit) × RefusesStep t.calculator (Some refusal)

-- So many steps were made, there is no reason to stop, but the next step is refused.
abbrev pub IsRefused : ℕ → ℕ → BenchState → CalculatorRefusal → Type 0
IsRefused limit made t refusal =
    (made < limit)
    × (stop_after (nat_lt 0 made) t ≡ None)
    × RefusesStep t.calculator (Some refusal)

-- Steps that continue after others, of which the last left s: `made` steps are made then, and the
-- last of them leaves t. There is at least one more, unless it is refused.
pub record Advances (limit from : ℕ) (s : BenchState) (made : ℕ)
    (t : BenchState) (refusal : Option CalculatorRefusal) : Type 0 where
  pub most : made ≤ limit
  pub goes_on : (start : BenchState) → MakesSteps limit from start s → MakesSteps limit made start t
  pub kept : t.breakpoints ≡ s.breakpoints
  pub ends : MatchOption refusal (from < made) (IsRefused limit made t)

-- The cache after further steps from s, if s is the state after the steps so far.
abbrev pub KeepsOn : ℕ → LabelledCalculator → ℕ → LabelledCalculator → Option CalculatorRefusal
    → Type 0
KeepsOn from s made t refusal =
    (start : LabelledCalculator)
    → KeepsAfterSteps from start s
    → KeepsAfterTries made refusal start t
