use Rattle.std.proofs.Common.{◌≡◌, take}
use Rattle.h41_pages.proofs.name.Name.of.Given as goal

-- The characters so far.
abbrev pub invariant-loop-character : goal.invariant-loop-character
invariant-loop-character l = l.name ≡ take l.character-index l.characters
