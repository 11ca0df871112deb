use Rattle.std.proofs.Common.{◌≡◌, ◌+◌, ◌≤◌, length, drop, filter}
use Rattle.h41_codes.specs.NumberCharacters.{is_minus}
use Rattle.h41_numbers.proofs.number.sign_of.Given as goal

-- The signs so far, and those that are left.
abbrev pub invariant-loop-character : goal.invariant-loop-character
invariant-loop-character l =
    (l.signs + length (filter is_minus (drop l.character-index l.text)) ≡ length (filter is_minus l.text)) × (l.signs ≤ l.character-index)
