use Rattle.std.proofs.Common.{◌≡◌, ◌+◌, drop, false}
use Rattle.h41_asm.specs.SourceLines.{part_length}
use Rattle.h41_asm.proofs.words.word_end.Given as goal

-- The number of bytes so far, and the length of the rest of the part.
abbrev pub invariant-loop-i : goal.invariant-loop-i
invariant-loop-i l = part_length false l.line ≡ l.i + part_length l.quoted (drop l.i l.line)
