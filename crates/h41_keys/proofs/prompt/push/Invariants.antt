use Rattle.std.proofs.Common.{◌≡◌, ◌+◌, ◌++◌, take}
use Rattle.arrayvec.specs.ArrayVec.{array_vec_len}
use Rattle.h41_keys.proofs.prompt.push.Given as goal

abbrev pub invariant-loop-byte : goal.invariant-loop-byte
invariant-loop-byte l =
    (l.text.items ≡ l.initial.text.items ++ take l.byte-index l.more) × (array_vec_len l.text ≡ array_vec_len l.initial.text + l.byte-index)
