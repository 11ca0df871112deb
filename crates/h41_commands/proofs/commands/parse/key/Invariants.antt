use Rattle.std.proofs.Common.{◌≡◌, ◌+◌, ◌≤◌, length}
use Rattle.h41_lines.specs.Words.{words_of}
use Rattle.h41_commands.specs.Commands.{keys_of}
use Rattle.h41_commands.specs.DeckLines.{key_room}
use Rattle.h41_commands.proofs.KeyWords.{with_more}
use Rattle.h41_commands.proofs.commands.parse.key.Given as goal

-- There is room for the remaining words, and these name the other keys.
abbrev pub invariant-loop-name : goal.invariant-loop-name
invariant-loop-name l = record {
  room : length l.keys + length (words_of l.name-iterator.rest.now) ≤ key_room;
  named : keys_of (words_of l.operands.rest.now) ≡ with_more l.keys (words_of l.name-iterator.rest.now);
}
