use Rattle.std.proofs.Common.{◌≡◌, ◌*◌, ◌+◌, ◌≤◌, ◌++◌, take, length}
use Rattle.h41_lines.specs.Characters.{characters_text}
use Rattle.h41_lines.proofs.characters.push_characters.Given as goal

abbrev pub invariant-loop-character : goal.invariant-loop-character
invariant-loop-character g l = record {
  text : l.text.bytes ≡ l.initial.text.bytes ++ characters_text (take l.character-index l.characters);
  most : length l.text.bytes ≤ length l.initial.text.bytes + 3 * l.character-index;
}
