use Rattle.h41_digits.proofs.Packed.{weight_positive, digits_of-zero}
use Rattle.h41_digits.proofs.Digits.zero.Goals as goal

pub invariant_of-result : goal.invariant_of-result
invariant_of-result g c = (c.requires, weight_positive g.row.N)

pub returns : goal.returns
returns g c = digits_of-zero g.row.N
