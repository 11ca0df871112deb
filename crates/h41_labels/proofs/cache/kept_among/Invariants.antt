use Rattle.std.proofs.Common.{◌≡◌, drop}
use Rattle.h41_labels.specs.KeptAnswers.{answer_of}
use Rattle.h41_labels.proofs.cache.kept_among.Given as goal

abbrev pub invariant-loop-index : goal.invariant-loop-index
invariant-loop-index l = answer_of l.search l.slots ≡ answer_of l.search (drop l.index l.slots)
