use Rattle.std.proofs.Common.{◌≡◌, ◌∷◌, codes, map, string_bytes, take}
use Rattle.h41_serving.proofs.program.named.Given as goal

-- The words so far.
abbrev pub invariant-loop-word : goal.invariant-loop-word
invariant-loop-word l = map (λ word. word.now) l.named.items ≡ codes "bench" ∷ map string_bytes (take l.word-index l.others)
