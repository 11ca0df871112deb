use Rattle.std.proofs.Common.{◌≡◌, ◌+◌, ◌++◌, take, length}
use Rattle.h41_program.proofs.packer.Packer.push.Given as goal

-- The bytes so far.
abbrev pub invariant-loop-byte : goal.invariant-loop-byte
invariant-loop-byte l = record {
  items : l.self.bytes.items ≡ l.initial.self.bytes.items ++ take l.byte-index l.more;
  count : length l.self.bytes.items ≡ length l.initial.self.bytes.items + l.byte-index;
  full : l.self.full ≡ l.initial.self.full;
  last : l.self.last ≡ l.initial.self.last;
}
