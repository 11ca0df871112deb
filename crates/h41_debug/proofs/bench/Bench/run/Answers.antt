use Rattle.std.proofs.Common.{◌≡◌, ◌≤◌, ℕ, rules, arith}
use Rattle.h41_debug.proofs.bench.Bench.run.Goals as goal

some : (limit : ℕ) → (limit ≡ 0 → ⊥) → 1 ≤ limit
some limit other = omega (arith, other)

pub advance-requires : goal.advance-requires
advance-requires g c = (search rules, some _ c.if-limit-eq0.false)

pub returns-clause-run : goal.returns-clause-run
returns-clause-run g c = c.advance.ensures.run (search rules)

pub returns-clause-kept : goal.returns-clause-kept
returns-clause-kept g c = c.advance.ensures.kept
