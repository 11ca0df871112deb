use Rattle.h41_arith.proofs.Borrows.{complement_borrows}
use Rattle.h41_arith.proofs.laws.complement_borrows.Goals as goal

pub returns : goal.returns
returns c = complement_borrows
