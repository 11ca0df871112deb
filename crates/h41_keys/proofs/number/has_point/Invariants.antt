use Rattle.std.proofs.Common.{◌≡◌, drop}
use Rattle.std.specs.List.{list_any}
use Rattle.h41_codes.specs.NumberCharacters.{is_point}
use Rattle.h41_keys.proofs.number.has_point.Given as goal

-- The characters so far are no point.
abbrev pub invariant-loop-character : goal.invariant-loop-character
invariant-loop-character l = list_any is_point l.text ≡ list_any is_point (drop l.character-index l.text)
