use Rattle.std.proofs.Common.{◌≡◌, map, take}
use Rattle.h41_text.specs.Names.{character_byte}
use Rattle.h41_text.proofs.writer.number_line.Given as goal

abbrev pub invariant-loop-character : goal.invariant-loop-character
invariant-loop-character l = l.text.bytes ≡ map character_byte (take l.character-index l.characters)
