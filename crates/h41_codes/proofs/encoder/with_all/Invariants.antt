use Rattle.std.proofs.Common.{◌≡◌, ◌++◌, take}
use Rattle.h41_codes.proofs.encoder.with_all.Given as goal

abbrev pub invariant-loop-byte : goal.invariant-loop-byte
invariant-loop-byte l = l.front.items ≡ l.initial.front.items ++ take l.byte-index l.more
