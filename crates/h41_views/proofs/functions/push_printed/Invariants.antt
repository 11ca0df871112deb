use Rattle.std.proofs.Common.{◌≡◌, ◌++◌, take}
use Rattle.h41_lines.specs.Characters.{characters_text}
use Rattle.h41_views.proofs.functions.push_printed.Given as goal

-- The characters so far.
abbrev pub invariant-loop-character : goal.invariant-loop-character
invariant-loop-character l = l.text.items ≡ l.initial.text.items ++ characters_text (take l.character-index l.characters)
