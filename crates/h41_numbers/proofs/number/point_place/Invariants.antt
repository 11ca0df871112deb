use Rattle.std.proofs.Common.{◌≡◌, ◌+◌, drop}
use Rattle.std.specs.List.{position_or_len}
use Rattle.h41_codes.specs.NumberCharacters.{is_point}
use Rattle.h41_numbers.proofs.number.point_place.Given as goal

-- None of the characters so far is a point.
abbrev pub invariant-loop-index : goal.invariant-loop-index
invariant-loop-index l = position_or_len is_point l.text ≡ l.index + position_or_len is_point (drop l.index l.text)
