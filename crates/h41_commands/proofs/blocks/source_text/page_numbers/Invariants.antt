use Rattle.std.proofs.Common.{◌≡◌, take}
use Rattle.h41_commands.proofs.blocks.source_text.page_numbers.Given as goal

-- The numbers so far.
abbrev pub invariant-loop-word : goal.invariant-loop-word
invariant-loop-word l = l.numbers.items ≡ take l.word-index l.words
