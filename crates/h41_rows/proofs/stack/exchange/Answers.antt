use Rattle.std.proofs.Common.{rules}
use Rattle.h41_rows.proofs.MarksLeft.{left_by_apart, none_yet, same_apart, then_apart, then_status}
use Rattle.h41_rows.proofs.stack.exchange.Goals as goal

pub returns-clause-left : goal.returns-clause-left
returns-clause-left g c = search (rules, then_apart, then_status, none_yet, left_by_apart, same_apart)
