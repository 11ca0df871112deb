-- What several writes have written together.
use Rattle.std.proofs.Common.{◌≡◌, ℕ, ◌+◌, ◌-◌, List, ◌++◌, length, take, drop, Option, Some, None, arith, sym, ap, ◌∙◌, append_assoc}
use Rattle.std.proofs.Math.Seq.{take-add}
use Rattle.std.proofs.lemmas.Grind.{common_steps}
use Rattle.std.specs.Io.KnownBytes.{Appends}

pub whole_rest : (i : ℕ) (xs : List ℕ) → take (length xs - i) (drop i xs) ≡ drop i xs
whole_rest i xs = grind (arith, common_steps)

-- A prefix of the bytes, and then a prefix of the rest.
pub appends-front : (a b c : Option (List ℕ)) (xs : List ℕ) (i n : ℕ) → Appends a b (take i xs)
    → Appends b c (take n (take (length xs - i) (drop i xs))) → Appends a c (take (i + n) xs)
appends-front None b c xs i n first second = tt
appends-front (Some before) None c xs i n first second = absurd first
appends-front (Some before) (Some bs) None xs i n first second = absurd second
appends-front (Some before) (Some bs) (Some cs) xs i n first second =
    let more = rw whole_rest at second in
    let joined : cs ≡ (before ++ take i xs) ++ take n (drop i xs) = cc in
    joined ∙ append_assoc before (take i xs) (take n (drop i xs)) ∙ ap (λ zs. before ++ zs) (sym (take-add i n xs))
