use Rattle.std.proofs.Common.{◌≤◌, ◌-◌, length}
use Rattle.h41_ends.proofs.LineEnds.{NoneBefore}
use Rattle.h41_ends.proofs.line_ends.line_end.Given as goal

-- No line ends in the bytes that were compared.
abbrev pub invariant-loop-at : goal.invariant-loop-at
invariant-loop-at l = record {
  within : l.at ≤ length l.fn.text;
  none : NoneBefore l.fn.text l.at;
}

abbrev pub decreases-loop-at : goal.decreases-loop-at
decreases-loop-at l = length l.fn.text - l.at
