-- The bench: its state, single steps in turn, and keys in turn.
use Rattle.std.specs.Prelude.{◌≡◌, ℕ, zero, suc, List, [], ◌∷◌, Option, Some, None, MatchOption}
use Rattle.h41_keys.specs.declared.key.Key.{Key}
use Rattle.h41_xrom.specs.Calculator.{CalculatorState, RefusesStep, Step}
use Rattle.h41_xrom.specs.Calculator as calculator
use Rattle.h41_xrom.specs.KeyActions.{Presses}
use Rattle.h41_xrom.specs.declared.refusal.CalculatorRefusal.{CalculatorRefusal}
use Rattle.h41_breakpoints.specs.Breakpoints.{BreakpointSet, no_breakpoints, with_breakpoint}
use Rattle.h41_breakpoints.specs.Breakpoints.{without_breakpoint}
use Rattle.h41_breakpoints.specs.declared.location.Location.{Location}

-- The state of the bench.
pub record BenchState : Type 0 where
  pub calculator : CalculatorState
  -- The breakpoints that are set.
  pub breakpoints : BreakpointSet

-- The initial state of a calculator with so many main registers, without breakpoints.
abbrev pub start : ℕ → BenchState
start registers = record {
  calculator = calculator.start registers;
  breakpoints = no_breakpoints;
}

-- The bench with another calculator.
abbrev pub with_calculator : CalculatorState → BenchState → BenchState
with_calculator c s = record s { calculator = c }

-- The bench with one more breakpoint.
abbrev pub with_set : Location → BenchState → BenchState
with_set location s = record s { breakpoints = with_breakpoint location s.breakpoints }

-- The bench without this breakpoint.
abbrev pub without_set : Location → BenchState → BenchState
without_set location s = record s { breakpoints = without_breakpoint location s.breakpoints }

-- A single step is made, and the state after it is in this relation.
abbrev pub StepsInto : (BenchState → Type 0) → BenchState → Type 0
StepsInto holds s =
    (next : CalculatorState) × Step s.calculator next × holds (with_calculator next s)

-- So many single steps, up to the first that is refused, and its refusal.
abbrev pub Steps : ℕ → BenchState → BenchState → Option CalculatorRefusal → Type 0
Steps zero s t refusal = (t ≡ s) × (refusal ≡ None)
Steps (suc count) s t refusal =
    (why : Option CalculatorRefusal) × RefusesStep s.calculator why
    × MatchOption why (StepsInto (λ next. Steps count next t refusal) s)
    (λ why. (t ≡ s) × (refusal ≡ Some why))

-- Keys in turn, up to the first that is refused, and its refusal. The refused key changes nothing.
abbrev pub PressesInTurn : List Key → BenchState → BenchState → Option CalculatorRefusal → Type 0
PressesInTurn [] s t refusal = (t ≡ s) × (refusal ≡ None)
PressesInTurn (key ∷ keys) s t refusal =
    (next : CalculatorState) × (why : Option CalculatorRefusal) × Presses key s.calculator next why
    × MatchOption why (PressesInTurn keys (with_calculator next s) t refusal)
    (λ why. (t ≡ with_calculator next s) × (refusal ≡ Some why))
