use Rattle.std.proofs.Common.{◌≡◌, Some, None, ap, arith}
use Rattle.h41_debug.proofs.Runs.{none_made, one_made, refused_for, some_made}
use Rattle.h41_debug.proofs.CacheInTurn as cache
use Rattle.h41_debug.specs.KeptInTurn.{refusal_of}
use Rattle.h41_debug.specs.LabelledBench.{calculator_of}
use Rattle.h41_debug.proofs.bench.Bench.step.Goals as goal

pub returns-in-Refused-clause-refusal : goal.returns-in-Refused-clause-refusal
returns-in-Refused-clause-refusal g c =
    let ended = refused_for 1 _ c.advance-made.new.self.state _ _ c.advance-made.ensures.ends c.in-Refused.is in
    let stays = none_made _ c.args.self.now.state c.advance-made.new.self.state ended.0 c.advance-made.ensures.steps in
    rw (← stays) ended.1

pub returns : goal.returns
returns g c =
    let some =
    some_made 1 _ c.advance-made.new.self.state c.advance-made.result.1 (omega arith) c.advance-made.ensures.ends
    c.in_default.not-Refused in
    let one : c.advance-made.result.0 ≡ 1 = omega (arith, some, c.advance-made.ensures.most) in
    let made = one_made c.args.self.now.state c.advance-made.new.self.state (rw one at c.advance-made.ensures.steps) in
    record {
      refusal = made.0;
      change = made.1;
      others = made.2;
      unchanged = tt;
      kept = cache.one_made (calculator_of c.args.self.now) (calculator_of c.advance-made.new.self) c.advance-made.result.0 one
          (cache.tries_as c.advance-made.result.0 (calculator_of c.args.self.now) (calculator_of c.advance-made.new.self) _ None
          (cache.unrefused c.advance-made.result.1 c.in_default.not-Refused) c.advance-made.ensures.kept);
    }

pub returns-in-Refused-clause-kept : goal.returns-in-Refused-clause-kept
returns-in-Refused-clause-kept g c =
    let ended = refused_for 1 _ c.advance-made.new.self.state _ _ c.advance-made.ensures.ends c.in-Refused.is in
    cache.none_made (calculator_of c.args.self.now) (calculator_of c.advance-made.new.self) c.advance-made.result.0 c.in-Refused.refusal
    ended.0 (cache.tries_as c.advance-made.result.0 (calculator_of c.args.self.now) (calculator_of c.advance-made.new.self) _
    (Some c.in-Refused.refusal) (ap refusal_of c.in-Refused.is) c.advance-made.ensures.kept)
