-- Tables of as many numbers as a type has, tried one by one.
use Rattle.std.proofs.Common.{◌≡◌, ℕ, zero, suc, ◌<◌, ◌≤◌, ⊎_elim, Bool, true, subst, arith}
use Rattle.std.specs.Prelude.{◌&&◌}
use Rattle.std.proofs.lemmas.Bool.{and_parts, cases_lt}

-- Whether a test holds of each number below a limit.
unfoldable pub each : (ℕ → Bool) → ℕ → Bool
each test zero = true
each test (suc number) = test number && each test number

pub each_holds : (test : ℕ → Bool) (limit number : ℕ) → each test limit ≡ true → number < limit → test number ≡ true
unfolding each
each_holds test zero number all less = absurd (omega arith)
each_holds test (suc limit) number all less =
    let parts = and_parts (test limit) (each test limit) all in
    ⊎_elim
    (λ (below : number < limit). each_holds test limit number parts.1 below)
    (λ (last : limit ≤ number).
    let e : limit ≡ number = omega arith in
    subst (λ n. test n ≡ true) e parts.0)
    (cases_lt number limit)
