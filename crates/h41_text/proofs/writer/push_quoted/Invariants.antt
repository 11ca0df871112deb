use Rattle.std.proofs.Common.{◌≡◌, ◌+◌, ◌*◌, ◌≤◌, ◌++◌, take, length}
use Rattle.std.specs.List.{flat_map}
use Rattle.h41_text.specs.LineText.{character_quoted}
use Rattle.h41_text.proofs.writer.push_quoted.Given as goal

abbrev pub invariant-loop-character : goal.invariant-loop-character
invariant-loop-character l = record {
  text : l.text.bytes ≡ l.initial.text.bytes ++ flat_map character_quoted (take l.character-index l.characters);
  most : length l.text.bytes ≤ length l.initial.text.bytes + 3 * l.character-index;
}
