use Rattle.std.proofs.Common.{◌≡◌, ◌<◌, ◌≤◌, ◌-◌, ℕ, Option, Some, None, rules, arith, sym, ◌∙◌}
use Rattle.std.specs.Prelude.{MatchOption}
use Rattle.h41_xrom.specs.declared.refusal.CalculatorRefusal.{CalculatorRefusal}
use Rattle.h41_debug.specs.Bench.{BenchState}
use Rattle.h41_debug.specs.private.Advancing.{IsRefused, MakesSteps}
use Rattle.h41_debug.specs.declared.run.Stop.TheVariants.{Refused}
use Rattle.h41_debug.proofs.Advancing.{less_left}
use Rattle.h41_debug.proofs.Runs.{Ended, ends_at_refusal, ends_limited, stops}
use Rattle.h41_debug.proofs.CacheInTurn as cache
use Rattle.h41_debug.specs.LabelledBench.{calculator_of}
use Rattle.h41_debug.proofs.bench.Bench.advance.Goals as goal

-- The result of the end of a piece of steps.
module _ (limit from made : ℕ) (t : BenchState) (why : Option CalculatorRefusal)
    (ends : MatchOption why (from < made) (IsRefused limit made t)) where
  made_some : why ≡ None → from < made
  made_some none = rw none at ends

  refused_by : (s : BenchState) (refusal : CalculatorRefusal) → MakesSteps limit made s t → why ≡ Some refusal
      → Ended limit made s t (Refused refusal)
  refused_by s refusal so_far is =
      let refused : IsRefused limit made t refusal = rw is at ends in
      ends_at_refusal limit made s t refusal so_far refused.1 refused.0 refused.2

below : (made limit : ℕ) → made ≤ limit → (made ≡ limit → ⊥) → made < limit
below made limit most other = omega (arith, most, other)

pub stop-requires : goal.stop-requires
stop-requires g c = (search rules, c.loop-stop.invariant.2)

pub returns-in-Some-clause-ends : goal.returns-in-Some-clause-ends
returns-in-Some-clause-ends g c = (stops _ _ _ _ _ c.loop-stop.invariant.0 (sym c.stop.ensures ∙ c.in-Some.is)).0

pub returns-in-Some-clause-run : goal.returns-in-Some-clause-run
returns-in-Some-clause-run g c = (stops _ _ _ _ _ c.loop-stop.invariant.0 (sym c.stop.ensures ∙ c.in-Some.is)).1

pub go_on-now-requires : goal.go_on-now-requires
go_on-now-requires g c =
    let more = below _ _ c.loop-stop.invariant.1 c.if-made-limit.false in
    (search rules, (more, (sym c.stop.ensures ∙ c.in_default.is, c.loop-stop.invariant.2)))

pub returns-in-Some-refused-clause-steps : goal.returns-in-Some-refused-clause-steps
returns-in-Some-refused-clause-steps g c = (c.go_on-now.ensures.steps.goes_on _ c.loop-stop.invariant.0).steps

pub returns-in-Some-refused-clause-ends : goal.returns-in-Some-refused-clause-ends
returns-in-Some-refused-clause-ends g c =
    (refused_by _ _ _ _ _ c.go_on-now.ensures.steps.ends _ _ (c.go_on-now.ensures.steps.goes_on _ c.loop-stop.invariant.0)
    c.in-Some-refused.is).0

pub returns-in-Some-refused-clause-run : goal.returns-in-Some-refused-clause-run
returns-in-Some-refused-clause-run g c =
    (refused_by _ _ _ _ _ c.go_on-now.ensures.steps.ends _ _ (c.go_on-now.ensures.steps.goes_on _ c.loop-stop.invariant.0)
    c.in-Some-refused.is).1

pub loop-stop-smaller : goal.loop-stop-smaller
loop-stop-smaller g c =
    let more = below _ _ c.loop-stop.invariant.1 c.if-made-limit.false in
    less_left _ _ _ more (made_some _ _ _ _ _ c.go_on-now.ensures.steps.ends c.in_default-refused.is)

pub loop-stop-preserved : goal.loop-stop-preserved
loop-stop-preserved g c = (
  c.go_on-now.ensures.steps.goes_on _ c.loop-stop.invariant.0,
  c.go_on-now.ensures.steps.most,
  λ unwatched. rw c.go_on-now.ensures.steps.kept (c.loop-stop.invariant.2 unwatched),
  cache.tries_as _ (calculator_of c.args.self.now) (calculator_of c.go_on-now.new.self) _ None c.in_default-refused.is
      (c.go_on-now.ensures.kept _ c.loop-stop.invariant.3),
)

pub returns-then-made-limit-clause-ends : goal.returns-then-made-limit-clause-ends
returns-then-made-limit-clause-ends g c = c.if-made-limit.true

pub returns-then-made-limit-clause-run : goal.returns-then-made-limit-clause-run
returns-then-made-limit-clause-run g c =
    ends_limited _ _ _ _ c.loop-stop.invariant.0 (sym c.stop.ensures ∙ c.in_default.is) c.if-made-limit.true

pub returns-in-Some-clause-kept : goal.returns-in-Some-clause-kept
returns-in-Some-clause-kept g c =
    cache.ended _ (calculator_of c.args.self.now) (calculator_of c.loop-stop.self) _
    (cache.stops_unrefused _ c.loop-stop.self.state _ (sym c.stop.ensures ∙ c.in-Some.is)) c.loop-stop.invariant.3

pub returns-then-made-limit-clause-kept : goal.returns-then-made-limit-clause-kept
returns-then-made-limit-clause-kept g c = c.loop-stop.invariant.3

pub returns-in-Some-refused-clause-kept : goal.returns-in-Some-refused-clause-kept
returns-in-Some-refused-clause-kept g c =
    cache.tries_as _ (calculator_of c.args.self.now) (calculator_of c.go_on-now.new.self) _ (Some c.in-Some-refused.refusal)
    c.in-Some-refused.is (c.go_on-now.ensures.kept _ c.loop-stop.invariant.3)
