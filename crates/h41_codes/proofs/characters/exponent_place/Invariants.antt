use Rattle.std.proofs.Common.{◌≡◌, ◌+◌, drop}
use Rattle.std.specs.List.{position_or_len}
use Rattle.h41_codes.specs.NumberCharacters.{is_exponent}
use Rattle.h41_codes.proofs.characters.exponent_place.Given as goal

-- None of the characters so far is an E.
abbrev pub invariant-loop-index : goal.invariant-loop-index
invariant-loop-index l = position_or_len is_exponent l.text ≡ l.index + position_or_len is_exponent (drop l.index l.text)
