use Rattle.std.proofs.Common.{◌≡◌, map, take}
use Rattle.h41_codes.specs.Codes.{character_code}
use Rattle.h41_codes.proofs.encoder.number_bytes.Given as goal

abbrev pub invariant-loop-character : goal.invariant-loop-character
invariant-loop-character l = l.bytes.items ≡ map character_code (take l.character-index l.characters)
