-- How the loops that make single steps continue.
use Rattle.std.proofs.Common.{◌≡◌, ◌<◌, ◌≤◌, ℕ, ◌+◌, ◌-◌, Bool, true, false, nat_lt, Option, Some, None, refl, sym, ap, rules}
use Rattle.std.proofs.Common.{subst, arith, Fits, w32}
use Rattle.std.specs.Prelude.{if◌then◌else◌}
use Rattle.h41_xrom.specs.declared.calculator.Caller.{Caller}
use Rattle.h41_xrom.specs.declared.calculator.Mode.{Mode}
use Rattle.h41_xrom.specs.declared.calculator.Mode.TheVariants as modes
use Rattle.h41_xrom.specs.declared.refusal.CalculatorRefusal.{CalculatorRefusal}
use Rattle.h41_xrom.specs.Calculator.{CalculatorState, RefusesLine, RefusesStep, RefusesStepIn, Step, StepIn, StepsByLine, is_idle}
use Rattle.h41_xrom.specs.CalculatorLaws.{StepIsDetermined, StepRefusalIsDetermined}
use Rattle.h41_debug.specs.private.Advancing.{Advances, MakesSteps}
use Rattle.h41_debug.specs.Bench.{BenchState, with_calculator}
use Rattle.h41_breakpoints.specs.Breakpoints.{is_set}
use Rattle.h41_debug.specs.Positions.{location_of}
use Rattle.h41_debug.specs.private.Running.{runs_function, stop_after, stop_at, stop_running}
use Rattle.h41_debug.specs.declared.run.Stop.{Stop}
use Rattle.h41_debug.specs.declared.run.Stop.TheVariants.{Break, Idle}
use Rattle.h41_debug.proofs.Runs.{made_more}

-- While no function runs, a step is a line.
pub no_function : (m : Mode) → ((caller : Caller) → m ≡ modes.Micro caller → ⊥) → runs_function m ≡ false
no_function modes.Idle other = refl
no_function modes.Run other = refl
no_function (modes.Micro caller) other = absurd (other caller refl)

not_idle : (m : Mode) → (m ≡ modes.Idle → ⊥) → is_idle m ≡ false
not_idle modes.Idle other = absurd (other refl)
not_idle modes.Run other = refl
not_idle (modes.Micro caller) other = refl

pub line_refuses : (m : Mode) (s : CalculatorState) (why : Option CalculatorRefusal) → runs_function m ≡ false → RefusesLine s why
    → RefusesStepIn m s why
line_refuses modes.Idle s why none refuses = refuses
line_refuses modes.Run s why none refuses = refuses
line_refuses (modes.Micro caller) s why none refuses = cc

pub line_steps : (m : Mode) (s t : CalculatorState) → runs_function m ≡ false → StepsByLine s t → StepIn m s t
line_steps modes.Idle s t none steps = steps
line_steps modes.Run s t none steps = steps
line_steps (modes.Micro caller) s t none steps = cc

-- After a word of a function that still runs, only a breakpoint is a reason to stop.
stop_either : (behind : Bool) (t : BenchState) → stop_at t ≡ None → stop_after behind t ≡ None
stop_either true t none = none
stop_either false t none = refl

pub clear_behind : (behind : Bool) (t : BenchState) (caller : Caller) → t.calculator.mode ≡ modes.Micro caller
    → is_set t.breakpoints (location_of t.calculator) ≡ false → stop_after behind t ≡ None
clear_behind behind t caller mode free =
    stop_either behind t
    (subst (λ (m : Mode). (if is_idle m then Some Idle else stop_running t) ≡ None) (sym mode)
    (ap (λ (set : Bool). if set then Some Break else None) free))

-- The same holds after a line with which a program continues.
pub clear_in_program : (behind : Bool) (t : BenchState) → t.calculator.mode ≡ modes.Run → stop_running t ≡ None → stop_after behind t ≡ None
clear_in_program behind t mode clear =
    stop_either behind t (subst (λ (m : Mode). (if is_idle m then Some Idle else stop_running t) ≡ None) (sym mode) clear)

-- While something runs, only a breakpoint stops it.
pub breaks : (s : BenchState) → is_set s.breakpoints (location_of s.calculator) ≡ true → Some Break ≡ stop_running s
breaks s set = rw set refl

pub goes_past : (s : BenchState) → is_set s.breakpoints (location_of s.calculator) ≡ false → None ≡ stop_running s
goes_past s free = rw free refl

-- After a step, a reason to stop is that nothing runs, otherwise only a breakpoint.
pub idle_stops : (behind : Bool) (s : BenchState) → behind ≡ true → s.calculator.mode ≡ modes.Idle → Some Idle ≡ stop_after behind s
idle_stops behind s is mode = rw (is, mode) refl

pub running_stops : (behind : Bool) (s : BenchState) (m : Mode) → behind ≡ true → m ≡ s.calculator.mode → (m ≡ modes.Idle → ⊥)
    → (stop : Option Stop) → stop ≡ stop_running s → stop ≡ stop_after behind s
running_stops behind s m is mode other stop same = search (rules, not_idle)

module _ (same_refusal : StepRefusalIsDetermined) (same_step : StepIsDetermined) where
  -- One step more.
  pub one_more : (limit from made : ℕ) (first s t : BenchState)
      → ((start : BenchState) → MakesSteps limit from start first → MakesSteps limit made start s) → stop_after (nat_lt 0 made) s ≡ None
      → made < limit → RefusesStep s.calculator None → Step s.calculator t.calculator → t ≡ with_calculator t.calculator s
      → (start : BenchState) → MakesSteps limit from start first → MakesSteps limit (made + 1) start t
  one_more limit from made first s t so_far clear below accepted step others start begun = search (rules, made_more)

  -- A piece of steps that ends with this one.
  pub ends_piece : (limit from made : ℕ) (first s t : BenchState)
      → ((start : BenchState) → MakesSteps limit from start first → MakesSteps limit made start s) → s.breakpoints ≡ first.breakpoints
      → from ≤ made → stop_after (nat_lt 0 made) s ≡ None → made < limit → RefusesStep s.calculator None → Step s.calculator t.calculator
      → t ≡ with_calculator t.calculator s → Advances limit from first (made + 1) t None
  ends_piece limit from made first s t so_far kept behind clear below accepted step others = search (rules, one_more)

-- A piece of steps after which the next one is refused.
pub refused_piece : (limit from made : ℕ) (first s t : BenchState) (why : CalculatorRefusal)
    → ((start : BenchState) → MakesSteps limit from start first → MakesSteps limit made start s) → s.breakpoints ≡ first.breakpoints
    → stop_after (nat_lt 0 made) s ≡ None → made < limit → RefusesStep s.calculator (Some why) → t ≡ s
    → Advances limit from first made t (Some why)
refused_piece limit from made first s t why so_far kept clear below refused stays = search rules

-- A piece of all steps up to one.
pub all_steps : (limit from made until : ℕ) (first t : BenchState)
    → ((start : BenchState) → MakesSteps limit from start first → MakesSteps limit made start t) → t.breakpoints ≡ first.breakpoints
    → until ≤ made → made ≤ until → until ≤ limit → from < until → Advances limit from first until t None
all_steps limit from made until first t so_far kept all most few more = search rules

-- The numbers of steps.
pub same : (n : ℕ) → n ≤ n
same n = omega arith

pub up_to : (from limit : ℕ) → from < limit → from ≤ limit
up_to from limit below = omega (arith, below)

pub next_fits : (word until limit : ℕ) → word < until → until ≤ limit → Fits w32 limit → Fits w32 (word + 1)
next_fits word until limit below most fits = omega (arith, below, most, fits)

pub less_left : (limit made now : ℕ) → made < limit → made < now → limit - now < limit - made
less_left limit made now below more = omega (arith, below, more)
