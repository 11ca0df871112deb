use Rattle.std.proofs.Common.{◌≡◌, ◌≤◌, length}
use Rattle.h41_decimal.specs.Holding.{after_nulls}
use Rattle.h41_show.proofs.characters.after_nulls.Given as goal

abbrev pub invariant-loop-shown : goal.invariant-loop-shown
invariant-loop-shown l = record { same : after_nulls l.shown ≡ after_nulls l.bytes; most : length l.shown ≤ length l.bytes }

abbrev pub decreases-loop-shown : goal.decreases-loop-shown
decreases-loop-shown l = length l.shown
