use Rattle.std.proofs.Common.{◌≡◌}
use Rattle.h41_codes.proofs.Filling.{filling}
use Rattle.h41_codes.proofs.characters.Text.of.Given as goal

abbrev pub invariant-loop-index : goal.invariant-loop-index
invariant-loop-index g l = l.cells ≡ filling 0 g.row.MOST l.characters l.index
