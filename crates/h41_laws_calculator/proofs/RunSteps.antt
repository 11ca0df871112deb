-- Steps in turn and runs, if each step has an outcome.
use Rattle.std.proofs.Common.{◌≡◌, ℕ, zero, suc, ◌+◌, Bool, true, false, Option, Some, None, refl, arith, zero-add, rules}
use Rattle.std.specs.Prelude.{nat_lt}
use Rattle.std.proofs.lemmas.Bool.Decides.{nat_tests}
use Rattle.h41_xrom.specs.declared.refusal.CalculatorRefusal.{CalculatorRefusal}
use Rattle.h41_xrom.specs.Calculator.{RefusesStep, is_idle}
use Rattle.h41_xrom.specs.CalculatorLaws.{StepIsDetermined, StepRefusalIsDetermined}
use Rattle.h41_debug.specs.Bench.{BenchState, Steps, with_calculator}
use Rattle.h41_debug.specs.Run.{Run}
use Rattle.h41_debug.specs.private.Advancing.{MakesSteps}
use Rattle.h41_debug.specs.private.Running.{stop_after, stop_at}
use Rattle.h41_debug.specs.declared.run.Stop.{Stop}
use Rattle.h41_debug.specs.declared.run.Stop.TheVariants.{Idle}
use Rattle.h41_debug.proofs.Runs.{ends_at_limit, ends_refused, goes_on, made_more, made_none, stops}
use Rattle.h41_laws_calculator.specs.CalculatorAnswers.{AcceptedStepHasOneState, StepHasOneRefusal}
use Rattle.h41_laws_calculator.specs.BenchOutcomes.{LeadsToRegisters}

-- After a step.
some_made : (made : ℕ) → nat_lt 0 (made + 1) ≡ true
some_made made = grind (arith, nat_tests)

behind_one : (made : ℕ) (t : BenchState) (stop : Option Stop) → stop_at t ≡ stop → stop_after (nat_lt 0 (made + 1)) t ≡ stop
behind_one made t stop is = rw (some_made made) is

-- Steps in turn, and a run, that exist.
pub record Stepped (count : ℕ) (s : BenchState) : Type 0 where
  pub t : BenchState
  pub refusal : Option CalculatorRefusal
  pub steps : Steps count s t refusal

pub record Ran (limit : ℕ) (s : BenchState) : Type 0 where
  pub t : BenchState
  pub made : ℕ
  pub why : Stop
  pub run : Run limit s t made why

module _ (refusals : StepHasOneRefusal) (states : AcceptedStepHasOneState) where
  stepped_by : (count : ℕ) → ((s : BenchState) → LeadsToRegisters s → Stepped count s) → (s : BenchState) → LeadsToRegisters s
      → (why : Option CalculatorRefusal) → RefusesStep s.calculator why → Stepped (suc count) s
  stepped_by count more s leads None accepted =
      let next = states s.calculator (leads 0 s (refl, refl)) accepted in
      let rest =
      more (with_calculator next.answer s) (λ made t steps. leads (suc made) t (None, accepted, (next.answer, next.right, steps))) in
      record { t = rest.t; refusal = rest.refusal; steps = (None, accepted, (next.answer, next.right, rest.steps)) }
  stepped_by count more s leads (Some why) refused = record { t = s; refusal = Some why; steps = (Some why, refused, (refl, refl)) }

  pub stepped : (count : ℕ) (s : BenchState) → LeadsToRegisters s → Stepped count s
  stepped zero s leads = record { t = s; refusal = None; steps = (refl, refl) }
  stepped (suc count) s leads = let why = refusals s.calculator in stepped_by count (stepped count) s leads why.answer why.right

  module _ (same_refusal : StepRefusalIsDetermined) (same_step : StepIsDetermined) where
    -- So many steps were made, and as many remain.
    abbrev Runs : ℕ → Type 0
    Runs left =
        (limit made : ℕ) (s t : BenchState) → made + left ≡ limit → LeadsToRegisters s → is_idle s.calculator.mode ≡ false
        → MakesSteps limit made s t → stop_after (nat_lt 0 made) t ≡ None → Ran limit s

    run_behind : (left limit made : ℕ) → Runs left → (s t : BenchState) → made + suc left ≡ limit → LeadsToRegisters s
        → is_idle s.calculator.mode ≡ false → MakesSteps limit (made + 1) s t → (stop : Option Stop) → stop_at t ≡ stop → Ran limit s
    run_behind left limit made more s t sum leads running so_far (Some why) stop =
        record {
          t = t;
          made = made + 1;
          why = why;
          run = (stops limit (made + 1) s t why so_far (behind_one made t (Some why) stop)).1 running;
        }
    run_behind left limit made more s t sum leads running so_far None stop =
        more limit (made + 1) s t (omega (arith, sum)) leads running so_far (behind_one made t None stop)

    run_by : (left limit made : ℕ) → Runs left → (s t : BenchState) → made + suc left ≡ limit → LeadsToRegisters s
        → is_idle s.calculator.mode ≡ false → MakesSteps limit made s t → stop_after (nat_lt 0 made) t ≡ None
        → (why : Option CalculatorRefusal) → RefusesStep t.calculator why → Ran limit s
    run_by left limit made more s t sum leads running so_far stop None accepted =
        let next = states t.calculator (leads made t so_far.steps) accepted in
        let after = with_calculator next.answer t in
        let further =
        made_more same_refusal same_step limit made s t after so_far stop (omega (arith, sum)) accepted next.right refl in
        run_behind left limit made more s after sum leads running further (stop_at after) refl
    run_by left limit made more s t sum leads running so_far stop (Some why) refused =
        let on = goes_on limit made s t so_far stop running in
        record { t = t; made = made; why = _; run = ends_refused limit made s t why on (omega (arith, sum)) refused }

    run_from : (left : ℕ) → Runs left
    run_from zero limit made s t sum leads running so_far stop =
        let at : made ≡ limit = omega (arith, sum) in
        let on = goes_on limit made s t so_far stop running in
        record { t = t; made = made; why = _; run = ends_at_limit limit made s t on at }
    run_from (suc left) limit made s t sum leads running so_far stop =
        let why = refusals t.calculator in run_by left limit made (run_from left) s t sum leads running so_far stop why.answer why.right

    run_if : (idle : Bool) (limit : ℕ) (s : BenchState) → is_idle s.calculator.mode ≡ idle → LeadsToRegisters s → Ran limit s
    run_if true limit s idle leads = record { t = s; made = 0; why = Idle; run = search rules }
    run_if false limit s running leads = run_from limit limit 0 s s (zero-add limit) leads running (made_none limit s) refl

    pub ran : (limit : ℕ) (s : BenchState) → LeadsToRegisters s → Ran limit s
    ran limit s leads = run_if (is_idle s.calculator.mode) limit s refl leads
