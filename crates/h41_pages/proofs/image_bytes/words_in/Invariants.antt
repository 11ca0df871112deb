use Rattle.std.proofs.Common.{◌≡◌}
use Rattle.h41_pages.specs.Images.{first_words}
use Rattle.h41_pages.proofs.image_bytes.words_in.Given as goal

-- The words so far.
abbrev pub invariant-loop-offset : goal.invariant-loop-offset
invariant-loop-offset l = l.words.items ≡ first_words l.bytes l.offset
