use Rattle.h41_arith.proofs.Borrows.{complement_borrows}
use Rattle.h41_arith.proofs.sums.neg1.Goals as goal

pub returns-clause-borrow : goal.returns-clause-borrow
returns-clause-borrow g c =
    let difference = rw c.zero.ensures at c.sub.ensures in
    complement_borrows _ c.args.span.lo c.args.span.hi c.args.into c.args.x c.sub.result.0 c.sub.result.1 c.args.span.ordered difference
