use Rattle.std.proofs.Common.{rules}
use Rattle.h41_rows.proofs.MarksLeft.{left_by_apart}
use Rattle.h41_rows.proofs.stack.store_x.Goals as goal

pub returns-clause-left : goal.returns-clause-left
returns-clause-left g c = search (rules, left_by_apart)
