-- Runs: how single steps make one, why a state determines it, and how two runs make one.
use Rattle.std.proofs.Common.{◌≡◌, ◌<◌, ◌≤◌, ◌⊎◌, ℕ, zero, suc, ◌+◌, ◌-◌, inl, inr, Bool, true, false, Option, Some, None, refl, sym}
use Rattle.std.proofs.Common.{zero-add, arith, rules}
use Rattle.std.specs.Prelude.{MatchOption, if◌then◌else◌, nat_lt}
use Rattle.std.specs.Option.{unwrap_or}
use borrow.Author.Tests.{ltb-true, ltb-false}
use Rattle.h41_xrom.specs.declared.refusal.CalculatorRefusal.{CalculatorRefusal}
use Rattle.h41_xrom.specs.Calculator.{CalculatorState, RefusesStep, Step, is_idle}
use Rattle.h41_xrom.specs.CalculatorLaws.{StepIsDetermined, StepRefusalIsDetermined}
use Rattle.h41_debug.specs.Bench.{BenchState, Steps, StepsInto, with_calculator}
use Rattle.h41_debug.specs.BenchLaws.{RefusedStepIsRun, RunsAddUp, RunsAreDetermined, StepIsRun}
use Rattle.h41_breakpoints.specs.Breakpoints.{is_set}
use Rattle.h41_debug.specs.Positions.{location_of}
use Rattle.h41_debug.specs.Run.{Run, StopsFor, turn_of}
use Rattle.h41_debug.specs.private.Advancing.{EndsFor, MakesSteps, NoneBefore}
use Rattle.h41_debug.specs.private.Running.{stop_after, stop_at}
use Rattle.h41_debug.specs.declared.run.Stop.{Stop}
use Rattle.h41_debug.specs.declared.run.Stop.TheVariants.{Break, Idle, Limit, Refused}
use Rattle.h41_debug.proofs.StepsInTurn.{steps-refused, steps_determined}

-- The first of some steps, none of which is refused, and the others.
First : ℕ → BenchState → BenchState → Type 0
First count s t = (mid : CalculatorState) × Step s.calculator mid × Steps count (with_calculator mid s) t None

by_why : (count : ℕ) (s t : BenchState) (why : Option CalculatorRefusal) → RefusesStep s.calculator why
    → MatchOption why (StepsInto (λ mid. Steps count mid t None) s) (λ why. (t ≡ s) × (None ≡ Some why))
    → RefusesStep s.calculator None × First count s t
unfolding First
by_why count s t None accepted rest = (accepted, rest)
by_why count s t (Some why) refused rest = let none : None ≡ Some why = rest.1 in cc

first_step : (count : ℕ) (s t : BenchState) → Steps (suc count) s t None → RefusesStep s.calculator None × First count s t
first_step count s t steps = by_why count s t steps.0 steps.1 steps.2

-- Steps that follow others.
pub steps_add : (count more : ℕ) (s t u : BenchState) (refusal : Option CalculatorRefusal) → Steps count s t None → Steps more t u refusal
    → Steps (count + more) s u refusal
unfolding First
steps_add zero more s t u refusal steps rest = rw (zero-add more) (rw (← steps.0) rest)
steps_add (suc count) more s t u refusal steps rest =
    let first = first_step count s t steps in
    let sum : suc (count + more) ≡ suc count + more = omega arith in
    rw (← sum) (None, first.0, (first.1.0, first.1.1, steps_add count more (with_calculator first.1.0 s) t u refusal first.1.2 rest))

pub steps_split : (count more : ℕ) (s u : BenchState) → Steps (count + more) s u None
    → (t : BenchState) × Steps count s t None × Steps more t u None
unfolding First
steps_split zero more s u steps = (s, (refl, refl), rw (zero-add more) at steps)
steps_split (suc count) more s u steps =
    let sum : suc count + more ≡ suc (count + more) = omega arith in
    let first = first_step (count + more) s u (rw sum at steps) in
    let rest = steps_split count more (with_calculator first.1.0 s) u first.1.2 in
    (rest.0, (None, first.0, (first.1.0, first.1.1, rest.1)), rest.2)

pub one_step : (s : BenchState) (next : CalculatorState) → RefusesStep s.calculator None → Step s.calculator next
    → Steps 1 s (with_calculator next s) None
one_step s next accepted step = (None, accepted, (next, step, (refl, refl)))

-- One step that was made.
pub one_made : (s t : BenchState) → Steps 1 s t None
    → RefusesStep s.calculator None × Step s.calculator t.calculator × (t ≡ with_calculator t.calculator s)
unfolding First
one_made s t steps = search (rules, first_step)

pub none_made : (made : ℕ) (s t : BenchState) → made < 1 → Steps made s t None → t ≡ s
none_made zero s t below steps = steps.0
none_made (suc made) s t below steps = absurd (omega (arith, below))

-- The steps that remain after some.
pub steps_left : (left made : ℕ) (s t u : BenchState) (refusal : Option CalculatorRefusal) → made ≤ left → Steps made s t None
    → Steps (left - made) t u refusal → Steps left s u refusal
steps_left left made s t u refusal most steps rest = search (rules, steps_add)

pub steps_to_refusal : (left made : ℕ) (s t : BenchState) (why : CalculatorRefusal) → made < left → Steps made s t None
    → RefusesStep t.calculator (Some why) → Steps left s t (Some why)
steps_to_refusal left made s t why below steps refused =
    let more : left - made ≡ suc (left - made - 1) = omega (arith, below) in
    steps_left left made s t t (Some why) (omega (arith, below)) steps (steps-refused (left - made) (left - made - 1) t why more refused)

-- A run that continues: so many steps were made, and apart from the limit and a refusal there is no reason to stop.
pub record GoesOn (limit made : ℕ) (s t : BenchState) : Type 0 where
  pub steps : Steps made s t None
  pub running : is_idle t.calculator.mode ≡ false
  pub clear : 1 ≤ made → is_set t.breakpoints (location_of t.calculator) ≡ false
  pub before : NoneBefore limit made s

pub begins : (limit : ℕ) (s : BenchState) → is_idle s.calculator.mode ≡ false → GoesOn limit 0 s s
begins limit s running = search rules

pub made_none : (limit : ℕ) (s : BenchState) → MakesSteps limit 0 s s
made_none limit s = search rules

-- Why a reason that is tested before another does not hold.
module _ (limit made : ℕ) (t : BenchState) (running : is_idle t.calculator.mode ≡ false) where
  not_idle : (other : Stop) → turn_of other < 1 → StopsFor limit made t other → ⊥
  not_idle Idle below holds = let idle : is_idle t.calculator.mode ≡ true = holds in cc
  not_idle other below holds = absurd (omega (arith, below))

  module _ (clear : 1 ≤ made → is_set t.breakpoints (location_of t.calculator) ≡ false) where
    not_broken : (other : Stop) → turn_of other < 2 → StopsFor limit made t other → ⊥
    not_broken Idle below holds = let idle : is_idle t.calculator.mode ≡ true = holds in cc
    not_broken Break below holds = search rules
    not_broken Limit below holds = absurd (omega (arith, below))
    not_broken (Refused why) below holds = absurd (omega (arith, below))

    not_limited : (made ≡ limit → ⊥) → (other : Stop) → turn_of other < 3 → StopsFor limit made t other → ⊥
    not_limited short Idle below holds = let idle : is_idle t.calculator.mode ≡ true = holds in cc
    not_limited short Break below holds = not_broken Break (omega arith) holds
    not_limited short Limit below holds = short holds
    not_limited short (Refused why) below holds = absurd (omega (arith, below))

-- The run ends at its limit, or because a step is refused.
pub ends_at_limit : (limit made : ℕ) (s t : BenchState) → GoesOn limit made s t → made ≡ limit → Run limit s t made Limit
ends_at_limit limit made s t on all = search (rules, not_broken)

pub ends_refused : (limit made : ℕ) (s t : BenchState) (why : CalculatorRefusal) → GoesOn limit made s t → made < limit
    → RefusesStep t.calculator (Some why) → Run limit s t made (Refused why)
ends_refused limit made s t why on below refused = search (rules, not_limited)

pub refused_step_is_run : RefusedStepIsRun
refused_step_is_run s why running refused = ends_refused 1 0 s s why (begins 1 s running) (omega arith) refused

-- What follows from a reason after a step.
stop_none : (idle set : Bool) → (if idle then Some Idle else (if set then Some Break else None)) ≡ None → (idle ≡ false) × (set ≡ false)
stop_none true set is = cc
stop_none false true is = cc
stop_none false false is = (refl, refl)

stop_some : (idle set : Bool) (why : Stop) → (if idle then Some Idle else (if set then Some Break else None)) ≡ Some why
    → ((idle ≡ true) × (why ≡ Idle)) ⊎ ((idle ≡ false) × (set ≡ true) × (why ≡ Break))
stop_some true set why is = let same : Idle ≡ why = cc in inl (refl, sym same)
stop_some false true why is = let same : Break ≡ why = cc in inr (refl, refl, sym same)
stop_some false false why is = cc

-- Why steps ended, and that they were a run if something ran at first.
abbrev pub Ended : ℕ → ℕ → BenchState → BenchState → Stop → Type 0
Ended limit made s t why = EndsFor limit made t why × (is_idle s.calculator.mode ≡ false → Run limit s t made why)

-- If there is no reason to stop after a step, the run continues; otherwise it ends there.
on_behind : (limit made : ℕ) (s t : BenchState) → MakesSteps limit made s t → stop_at t ≡ None → is_idle s.calculator.mode ≡ false
    → GoesOn limit made s t
on_behind limit made s t so_far stop running = search (rules, stop_none)

stops_behind : (limit made : ℕ) (s t : BenchState) (why : Stop) → MakesSteps limit made s t → 1 ≤ made → stop_at t ≡ Some why
    → Ended limit made s t why
stops_behind limit made s t why so_far some stop = search (rules, stop_some, not_idle)

-- Before the first step no reason is tested.
at_first : (made : ℕ) (s t : BenchState) → nat_lt 0 made ≡ false → Steps made s t None → t ≡ s
at_first zero s t none steps = steps.0
at_first (suc made) s t none steps = absurd (omega (arith, ltb-false _ _ none))

pub goes_on : (limit made : ℕ) (s t : BenchState) → MakesSteps limit made s t → stop_after (nat_lt 0 made) t ≡ None
    → is_idle s.calculator.mode ≡ false → GoesOn limit made s t
goes_on limit made s t so_far stop running = search (rules, on_behind, at_first)

pub stops : (limit made : ℕ) (s t : BenchState) (why : Stop) → MakesSteps limit made s t → stop_after (nat_lt 0 made) t ≡ Some why
    → Ended limit made s t why
stops limit made s t why so_far stop = search (rules, stops_behind)

-- The next step is refused.
pub ends_at_refusal : (limit made : ℕ) (s t : BenchState) (why : CalculatorRefusal) → MakesSteps limit made s t
    → stop_after (nat_lt 0 made) t ≡ None → made < limit → RefusesStep t.calculator (Some why) → Ended limit made s t (Refused why)
ends_at_refusal limit made s t why so_far stop below refused = search (rules, ends_refused, goes_on)

-- As many steps were made as the limit permits.
pub ends_limited : (limit made : ℕ) (s t : BenchState) → MakesSteps limit made s t → stop_after (nat_lt 0 made) t ≡ None → made ≡ limit
    → is_idle s.calculator.mode ≡ false → Run limit s t made Limit
ends_limited limit made s t so_far stop all running = ends_at_limit limit made s t (goes_on limit made s t so_far stop running) all

ends_made : (limit : ℕ) (s t : BenchState) → 1 ≤ limit → MakesSteps limit limit s t → Ended limit limit s t (unwrap_or (stop_at t) Limit)
ends_made limit s t some so_far = search (rules, stops_behind, ends_at_limit, on_behind)

-- What follows from why steps ended.
pub refused_for : (limit made : ℕ) (t : BenchState) (why : Stop) (refusal : CalculatorRefusal) → EndsFor limit made t why
    → why ≡ Refused refusal → (made < limit) × RefusesStep t.calculator (Some refusal)
refused_for limit made t why refusal ends is = rw is at ends

pub some_made : (limit made : ℕ) (t : BenchState) (why : Stop) → 1 ≤ limit → EndsFor limit made t why
    → ((refusal : CalculatorRefusal) → why ≡ Refused refusal → ⊥) → 1 ≤ made
some_made limit made t Idle some ends other = ends
some_made limit made t Break some ends other = ends
some_made limit made t Limit some ends other = omega (arith, some, ends)
some_made limit made t (Refused refusal) some ends other = absurd (other refusal refl)

-- Numbers of which neither is below the other, and a number that is below another or continues from it.
equal_counts : (a b : ℕ) → (a < b → ⊥) → (b < a → ⊥) → a ≡ b
equal_counts a b least most = omega (arith, least, most)

before_or_from : (a b : ℕ) → (a < b) ⊎ ((k : ℕ) × (a ≡ b + k))
before_or_from a b = elim (nat_lt a b) as (λ less. nat_lt a b ≡ less → (a < b) ⊎ ((k : ℕ) × (a ≡ b + k))) [
  | true ↦ λ less. inl (ltb-true _ _ less)
  | false ↦ λ less. inr (a - b, omega (arith, ltb-false _ _ less))
] refl

below_or_at : (a b : ℕ) → a < b + 1 → (a < b) ⊎ (a ≡ b)
below_or_at a b under = elim (before_or_from a b) [ inl less ↦ inl less | inr from ↦ inr (omega (arith, from.1)) ]

module _ (same_refusal : StepRefusalIsDetermined) (same_step : StepIsDetermined) where
  -- If a step is made, there was no reason to stop.
  none_here : (limit made : ℕ) (s t : BenchState) → GoesOn limit made s t → made < limit → RefusesStep t.calculator None
      → (other : Stop) → StopsFor limit made t other → ⊥
  none_here limit made s t on below accepted (Refused why) holds = search rules
  none_here limit made s t on below accepted Idle holds = not_broken limit made t on.running on.clear Idle (omega arith) holds
  none_here limit made s t on below accepted Break holds = not_broken limit made t on.running on.clear Break (omega arith) holds
  none_here limit made s t on below accepted Limit holds = omega (arith, holds, below)

  none_more : (limit made : ℕ) (s t : BenchState) → GoesOn limit made s t → made < limit → RefusesStep t.calculator None
      → NoneBefore limit (made + 1) s
  none_more limit made s t on below accepted fewer u other under steps holds =
      elim (below_or_at fewer made under) [
        | inl less ↦ on.before fewer u other less steps holds
        | inr same ↦
            let here = (steps_determined same_refusal same_step made s t u None None on.steps (rw (← same) steps)).0 in
            none_here limit made s t on below accepted other (rw (here, ← same) holds)
      ]

  -- One more step.
  pub made_more : (limit made : ℕ) (s t next : BenchState) → MakesSteps limit made s t → stop_after (nat_lt 0 made) t ≡ None → made < limit
      → RefusesStep t.calculator None → Step t.calculator next.calculator → next ≡ with_calculator next.calculator t
      → MakesSteps limit (made + 1) s next
  made_more limit made s t next so_far stop below accepted step others = record {
    steps =
        rw others (steps_add made 1 s t (with_calculator next.calculator t) None so_far.steps (one_step t next.calculator accepted step));
    before = λ running. none_more limit made s t (goes_on limit made s t so_far stop running) below accepted;
  }

  -- A single step.
  pub step_is_run : StepIsRun
  step_is_run s next running accepted step =
      let after : BenchState = with_calculator next s in
      let so_far = made_more 1 0 s s after (made_none 1 s) refl (omega arith) accepted step refl in
      (unwrap_or (stop_at after) Limit, (ends_made 1 s after (omega arith) so_far).1 running)

  -- Two runs from the same state.
  same_stop : (limit made : ℕ) (t : BenchState) (why other : Stop) → turn_of why ≡ turn_of other → StopsFor limit made t why
      → StopsFor limit made t other → why ≡ other
  same_stop limit made t Idle Idle turn p q = refl
  same_stop limit made t Break Break turn p q = refl
  same_stop limit made t Limit Limit turn p q = refl
  same_stop limit made t (Refused why) (Refused other) turn p q = search rules
  same_stop limit made t why other turn p q = absurd (omega (arith, turn))

  not_longer : (limit : ℕ) (s t u : BenchState) (made count : ℕ) (why other : Stop) → Run limit s t made why → Run limit s u count other
      → made < count → ⊥
  not_longer limit s t u made count why other p q below = q.least made t why below p.steps p.stops

  pub runs_determined : RunsAreDetermined
  runs_determined limit s t u made count why other p q =
      let counts =
      equal_counts made count (not_longer limit s t u made count why other p q) (not_longer limit s u t count made other why q p) in
      let states = (steps_determined same_refusal same_step made s t u None None p.steps (rw counts q.steps)).0 in
      let here : StopsFor limit made t other = rw (states, counts) q.stops in
      let there : StopsFor limit count u why = rw (← states, ← counts) p.stops in
      let turns = equal_counts (turn_of why) (turn_of other) (λ below. q.first why below there) (λ below. p.first other below here) in
      (states, counts, same_stop limit made t why other turns p.stops here)

  -- Two runs make one.
  module _ (limit more : ℕ) (s t u : BenchState) (made count : ℕ) (why : Stop)
      (one : Run limit s t made Limit) (two : Run more t u count why) where
    onward : (k : ℕ) (x : BenchState) (other : Stop) → StopsFor more k x other → StopsFor (limit + more) (made + k) x other
    onward k x Idle holds = holds
    onward k x Break holds = (omega (arith, holds.0), holds.1)
    onward k x Limit holds = omega (arith, holds, one.stops)
    onward k x (Refused refusal) holds = holds

    no_break : (x : BenchState) → x ≡ t → StopsFor (limit + more) made x Break → ⊥
    no_break x same holds = one.first Break (omega arith) (holds.0, rw (← same) holds.1)

    back_at_break : (k : ℕ) (x : BenchState) → Steps k t x None → StopsFor (limit + more) (made + k) x Break → StopsFor more k x Break
    back_at_break zero x steps holds = absurd (no_break x steps.0 (omega (arith, holds.0), holds.1))
    back_at_break (suc k) x steps holds = (omega arith, holds.1)

    back : (k : ℕ) (x : BenchState) (other : Stop) → Steps k t x None → StopsFor (limit + more) (made + k) x other → StopsFor more k x other
    back k x Idle steps holds = holds
    back k x Break steps holds = back_at_break k x steps holds
    back k x Limit steps holds = omega (arith, holds, one.stops)
    back k x (Refused refusal) steps holds = holds

    early : (fewer : ℕ) (v : BenchState) (other : Stop) → fewer < made → StopsFor (limit + more) fewer v other
        → StopsFor limit fewer v other
    early fewer v Idle below holds = holds
    early fewer v Break below holds = holds
    early fewer v Limit below holds = absurd (omega (arith, holds, below, one.stops))
    early fewer v (Refused refusal) below holds = holds

    later : (k : ℕ) (v : BenchState) (other : Stop) → k < count → Steps (made + k) s v None → StopsFor (limit + more) (made + k) v other → ⊥
    later k v other below steps holds =
        let parts = steps_split made k s v steps in
        let same : parts.0 ≡ t = (steps_determined same_refusal same_step made s parts.0 t None None parts.1 one.steps).0 in
        let rest : Steps k t v None = rw (← same) parts.2 in
        two.least k v other below rest (back k v other rest holds)

    sooner : (fewer : ℕ) (v : BenchState) (other : Stop) → fewer < made + count → Steps fewer s v None
        → StopsFor (limit + more) fewer v other → ⊥
    sooner fewer v other below steps holds =
        elim (before_or_from fewer made) [
          | inl less ↦ one.least fewer v other less steps (early fewer v other less holds)
          | inr from ↦
              later from.0 v other (omega (arith, from.1, below)) (rw (← from.1) steps)
              (rw (← from.1) holds)
        ]

    pub two_runs : Run (limit + more) s u (made + count) why
    two_runs = search (rules, steps_add, onward, back, sooner)

  pub runs_added : RunsAddUp
  runs_added limit more s t u made count why one two = two_runs limit more s t u made count why one two
