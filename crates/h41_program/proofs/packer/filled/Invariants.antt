use Rattle.std.proofs.Common.{◌≡◌, ◌+◌, ◌++◌, length, replicate}
use Rattle.h41_program.proofs.packer.filled.Given as goal

-- The nulls so far.
abbrev pub invariant-loop-null : goal.invariant-loop-null
invariant-loop-null l = record {
  items : l.bytes.items ≡ l.initial.bytes.items ++ replicate l._null 0;
  count : length l.bytes.items ≡ length l.initial.bytes.items + l._null;
}
