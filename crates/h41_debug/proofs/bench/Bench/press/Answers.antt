use Rattle.std.proofs.lemmas.List.{drop_more}
use Rattle.std.proofs.lemmas.Result.{err_from_is_err_and}
use Rattle.h41_debug.specs.Bench.{BenchState}
use Rattle.h41_debug.proofs.CacheInTurn as cache
use Rattle.h41_debug.proofs.KeysInTurn.{key_more, key_refused}
use Rattle.h41_debug.proofs.bench.Bench.press.Goals as goal

pub returns-in_err-key-clause-keys : goal.returns-in_err-key-clause-keys
returns-in_err-key-clause-keys g c =
    let at : BenchState =
    record { calculator = c.loop-key.self-inside.calculator.state; breakpoints = c.loop-key.self-inside.breakpoints } in
    let p = err_from_is_err_and c.from_residual.result c.from_residual.ensures.1 in
    rw (p.1, p.2) (c.loop-key.invariant.0 _ _ (key_refused _ _ _ at c.key.new.self.state c.in_err-key.field-0.0
    (drop_more c.args.keys.now c.loop-key.key-index _ c.loop-key-test.true) c.in_err-key.ensures.key))

pub returns-in_err-key-clause-kept : goal.returns-in_err-key-clause-kept
returns-in_err-key-clause-kept g c =
    c.loop-key.invariant.1 _ (cache.key_refused _ _ _ c.loop-key.self-inside.calculator c.key.new.self c.in_err-key.field-0.0
    (drop_more c.args.keys.now c.loop-key.key-index _ c.loop-key-test.true) c.in_err-key.ensures.key c.in_err-key.ensures.kept)

pub loop-key-preserved : goal.loop-key-preserved
loop-key-preserved g c =
    let at : BenchState =
    record { calculator = c.loop-key.self-inside.calculator.state; breakpoints = c.loop-key.self-inside.breakpoints } in
    let left = drop_more c.args.keys.now c.loop-key.key-index _ c.loop-key-test.true in (
      (λ t refusal rest. c.loop-key.invariant.0 t refusal
          (key_more _ _ _ at t c.key.new.self.state refusal left c.in_ok-key.ensures.key rest)),
      (λ t rest. c.loop-key.invariant.1 t
          (cache.key_more _ _ _ c.loop-key.self-inside.calculator c.key.new.self t left c.in_ok-key.ensures.key c.in_ok-key.ensures.kept
          rest)),
    )
