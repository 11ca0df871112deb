-- Ranges of numbers.
use Rattle.std.proofs.Common.{◌≡◌, ℕ, zero, suc, ◌+◌, [], ◌∷◌, ◌++◌, arith, ap, ◌∙◌}
use Rattle.std.specs.List.{range_with_len}

-- One number more.
pub range_more : (first count : ℕ) → range_with_len first (suc count) ≡ range_with_len first count ++ (first + count) ∷ []
range_more first zero = let at : first ≡ first + 0 = omega arith in ap (λ n. n ∷ []) at
range_more first (suc count) =
    let at : first + 1 + count ≡ first + suc count = omega arith in
    ap (λ rest. first ∷ rest) (range_more (first + 1) count ∙ ap (λ n. range_with_len (first + 1) count ++ n ∷ []) at)
