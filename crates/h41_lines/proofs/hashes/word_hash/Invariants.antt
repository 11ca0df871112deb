use Rattle.std.proofs.Common.{◌≡◌, ◌<◌, drop}
use Rattle.h41_lines.specs.private.Hashes.{hash_from}
use Rattle.h41_lines.proofs.hashes.word_hash.Given as goal

-- The hash of the remaining bytes, continued from the hash so far, is that of all bytes.
abbrev pub invariant-loop-byte : goal.invariant-loop-byte
invariant-loop-byte l = record {
  within : l.hash < 65536;
  same : hash_from l.factor l.hash (drop l.byte-index l.word) ≡ hash_from l.factor l.first l.word;
}
