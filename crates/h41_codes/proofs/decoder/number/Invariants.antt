use Rattle.std.proofs.Common.{◌≡◌, length, map, take}
use Rattle.h41_codes.specs.Codes.{character_code}
use Rattle.h41_codes.proofs.decoder.number.Given as goal

abbrev pub invariant-loop-index : goal.invariant-loop-index
invariant-loop-index l =
    record { size : length l.characters ≡ 16; same : map character_code (take l.index l.characters) ≡ take l.index l.bytes }
