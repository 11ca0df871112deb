use Rattle.std.proofs.Common.{◌≡◌, ◌+◌, Some, None, ap, arith, refl}
use Rattle.h41_debug.proofs.Runs.{refused_for, steps_left, steps_to_refusal}
use Rattle.h41_debug.proofs.CacheInTurn as cache
use Rattle.h41_debug.specs.KeptInTurn.{refusal_of}
use Rattle.h41_debug.specs.LabelledBench.{calculator_of}
use Rattle.h41_debug.proofs.bench.Bench.steps.Goals as goal

pub loop-left-init : goal.loop-left-init
loop-left-init g c = ((λ t refusal steps. steps), 0, omega arith, refl)

pub returns-in-Refused-clause-steps : goal.returns-in-Refused-clause-steps
returns-in-Refused-clause-steps g c =
    let ended = refused_for _ _ c.advance-made.new.self.state _ _ c.advance-made.ensures.ends c.in-Refused.is in
    c.loop-left.invariant.0 c.advance-made.new.self.state (Some c.in-Refused.refusal)
    (steps_to_refusal c.loop-left.left _ _ c.advance-made.new.self.state _ ended.0 c.advance-made.ensures.steps ended.1)

pub loop-left-preserved : goal.loop-left-preserved
loop-left-preserved g c = (
  (λ t refusal rest. c.loop-left.invariant.0 t refusal
      (steps_left c.loop-left.left c.advance-made.result.0 c.loop-left.self.state c.advance-made.new.self.state
      t refusal c.advance-made.ensures.most c.advance-made.ensures.steps rest)),
  c.loop-left.invariant.1 + c.advance-made.result.0,
  omega (arith, c.loop-left.invariant.2, c.advance-made.ensures.most),
  cache.steps_add c.loop-left.invariant.1 c.advance-made.result.0 (calculator_of c.args.self.now) (calculator_of c.loop-left.self)
      (calculator_of c.advance-made.new.self) c.loop-left.invariant.3
      (cache.tries_as c.advance-made.result.0 (calculator_of c.loop-left.self) (calculator_of c.advance-made.new.self) _ None
      (cache.unrefused c.advance-made.result.1 c.in_default.not-Refused) c.advance-made.ensures.kept),
)

pub returns-clause-steps : goal.returns-clause-steps
returns-clause-steps g c =
    let none : 0 ≡ c.loop-left.left = omega (arith, c.loop-left-test.false) in
    c.loop-left.invariant.0 c.loop-left.self.state None
    (rw (← none) (refl, refl))

pub returns-in-Refused-clause-kept : goal.returns-in-Refused-clause-kept
returns-in-Refused-clause-kept g c =
    let ended = refused_for _ _ c.advance-made.new.self.state _ _ c.advance-made.ensures.ends c.in-Refused.is in (
      c.loop-left.invariant.1 + c.advance-made.result.0,
      omega (arith, c.loop-left.invariant.2, ended.0),
      cache.tries_add c.loop-left.invariant.1 c.advance-made.result.0 (calculator_of c.args.self.now) (calculator_of c.loop-left.self)
          (calculator_of c.advance-made.new.self) c.in-Refused.refusal c.loop-left.invariant.3
          (cache.tries_as c.advance-made.result.0 (calculator_of c.loop-left.self) (calculator_of c.advance-made.new.self) _
          (Some c.in-Refused.refusal) (ap refusal_of c.in-Refused.is) c.advance-made.ensures.kept),
    )

pub returns-clause-kept : goal.returns-clause-kept
returns-clause-kept g c =
    let all : c.loop-left.invariant.1 ≡ c.args.count = omega (arith, c.loop-left-test.false, c.loop-left.invariant.2) in
    rw (← all) c.loop-left.invariant.3
