-- A run: the least number of single steps after which there is a reason to stop, and the first of
-- the reasons there. The reasons and their order are this project's choice.
use Rattle.std.specs.Prelude.{◌≡◌, ℕ, ◌<◌, ◌≤◌, IsTrue, Some, None}
use Rattle.h41_xrom.specs.Calculator.{RefusesStep, is_idle}
use Rattle.h41_debug.specs.Bench.{BenchState, Steps}
use Rattle.h41_breakpoints.specs.Breakpoints.{is_set}
use Rattle.h41_debug.specs.Positions.{location_of}
use Rattle.h41_debug.specs.declared.run.Stop.{Stop}
use Rattle.h41_debug.specs.declared.run.Stop.TheVariants.{Break, Idle, Limit, Refused}

-- A reason to stop after a number of steps, of at most a limit.
abbrev pub StopsFor : ℕ → ℕ → BenchState → Stop → Type 0
-- Nothing runs.
StopsFor limit made s Idle = IsTrue (is_idle s.calculator.mode)
-- A breakpoint is set where the calculator is; it does not count where a run begins.
StopsFor limit made s Break = (1 ≤ made) × IsTrue (is_set s.breakpoints (location_of s.calculator))
-- The limit is reached.
StopsFor limit made s Limit = made ≡ limit
-- The next step is refused.
StopsFor limit made s (Refused refusal) = RefusesStep s.calculator (Some refusal)

-- The order in which the reasons are tested.
abbrev pub turn_of : Stop → ℕ
turn_of Idle = 0
turn_of Break = 1
turn_of Limit = 2
turn_of (Refused refusal) = 3

-- A run of at most so many steps: from s it makes some and ends in t, for this reason.
pub record Run (limit : ℕ) (s t : BenchState) (made : ℕ) (why : Stop) : Type 0 where
  -- The run makes these single steps, none of which is refused.
  pub steps : Steps made s t None
  -- The run stops for this reason, and for none that is tested before.
  pub stops : StopsFor limit made t why
  pub first : (other : Stop) → turn_of other < turn_of why → StopsFor limit made t other → ⊥
  -- There was no reason to stop after fewer steps.
  pub least : (fewer : ℕ) (u : BenchState) (other : Stop) → fewer < made → Steps fewer s u None
      → StopsFor limit fewer u other → ⊥
