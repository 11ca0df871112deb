use Rattle.std.proofs.Common.{◌≡◌, Some, map}
use Rattle.h41_jobs.specs.WordTexts.{word_value}
use Rattle.h41_jobs.proofs.list.words_in.Given as goal

-- The parts so far write the words so far.
abbrev pub invariant-loop-part : goal.invariant-loop-part
invariant-loop-part l = map (λ part. word_value part.now) l.yielded ≡ map (λ word. Some word) l.words.items
