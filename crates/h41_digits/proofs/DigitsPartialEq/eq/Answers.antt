use Rattle.std.proofs.Common.{rules}
use Rattle.h41_digits.proofs.Packed.{same_kept}
use Rattle.h41_digits.proofs.DigitsPartialEq.eq.Goals as goal

pub returns : goal.returns
returns g c = search (rules, same_kept g.row.N)
