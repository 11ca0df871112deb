use Rattle.std.proofs.Common.{map, refl, subst, true, ◌≡◌}
use Rattle.clap.specs.Words.{App, FailsBy, HasMatchesOf, fault_of, is_simple_and_free}
use Rattle.std.specs.Prelude.{IfOk}
use Rattle.h41_jobs.proofs.arguments.matched.Goals as goal

pub returns : goal.returns
returns c = record {
  kinds = subst
      (λ (app : App). is_simple_and_free app ≡ true → FailsBy (fault_of app (map (λ w. w.now) c.args.words.now))
      c.try_get_matches_from.result)
      c.in_ok-bench.ensures c.try_get_matches_from.ensures.kinds refl;
  matches =
      subst (λ (app : App). IfOk c.try_get_matches_from.result (HasMatchesOf app (map (λ w. w.now) c.args.words.now))) c.in_ok-bench.ensures
      c.try_get_matches_from.ensures.matches;
}
