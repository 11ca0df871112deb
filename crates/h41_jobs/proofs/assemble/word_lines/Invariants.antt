use Rattle.std.proofs.Common.{◌≡◌, take}
use Rattle.h41_jobs.specs.WordTexts.{word_lines}
use Rattle.h41_jobs.proofs.assemble.word_lines.Given as goal

-- The lines so far.
abbrev pub invariant-loop-word : goal.invariant-loop-word
invariant-loop-word l = l.lines.items ≡ word_lines (take l.word-index l.words)
