use Rattle.std.proofs.Common.{◌≡◌, ◌+◌, ◌≤◌, length, drop, filter}
use Rattle.h41_keys.specs.NumberTyping.{is_digit}
use Rattle.h41_keys.proofs.number.count_of_digits.Given as goal

-- The digits so far, and those that are left.
abbrev pub invariant-loop-character : goal.invariant-loop-character
invariant-loop-character l =
    (l.count + length (filter is_digit (drop l.character-index l.text)) ≡ length (filter is_digit l.text)) × (l.count ≤ l.character-index)
