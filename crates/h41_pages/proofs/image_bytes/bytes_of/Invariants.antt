use Rattle.std.proofs.Common.{◌≡◌, ◌*◌, take, vec_len}
use Rattle.h41_pages.specs.Images.{image_bytes}
use Rattle.h41_pages.proofs.image_bytes.bytes_of.Given as goal

-- The bytes of the words so far.
abbrev pub invariant-loop-word : goal.invariant-loop-word
invariant-loop-word l = record {
  bytes : l.bytes.items ≡ image_bytes (take l.word-index l.words);
  size : vec_len l.bytes ≡ 2 * l.word-index;
}
