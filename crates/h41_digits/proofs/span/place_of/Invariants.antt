use Rattle.std.proofs.Common.{◌≡◌, ℕ, ◌<◌, ◌^◌}
use Rattle.h41_digits.proofs.span.place_of.Given as goal

-- No place so far has the weight.
abbrev pub invariant-loop-place : goal.invariant-loop-place
invariant-loop-place l = (place : ℕ) → place < l.place → l.fn.weight ≡ 16 ^ place → ⊥
