use Rattle.std.proofs.Common.{◌≡◌, ◌%◌, ◌++◌, map, reverse}
use Rattle.h41_asm.proofs.emit.push_codes.Given as goal

-- The words so far, and the codes of the remaining characters.
abbrev pub invariant-loop-byte : goal.invariant-loop-byte
invariant-loop-byte l =
    l.words.items ++ reverse (map (λ byte. byte % 64) l.byte-iterator.iter.rest.now)
    ≡ l.initial.words.items ++ reverse (map (λ byte. byte % 64) l.text)
