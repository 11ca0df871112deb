use Rattle.h41_arith.proofs.Borrows.{borrow_is_less}
use Rattle.h41_arith.proofs.laws.borrow_tells_less.Goals as goal

pub returns : goal.returns
returns c = borrow_is_less
