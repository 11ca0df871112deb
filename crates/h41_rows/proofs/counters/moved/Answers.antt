use Rattle.std.proofs.Common.{rules}
use Rattle.h41_decimal.proofs.Tens.{nearest_along}
use Rattle.h41_rows.proofs.Moved.{moved_units}
use Rattle.h41_rows.proofs.counters.moved.Goals as goal

pub returns-in-Some : goal.returns-in-Some
returns-in-Some c = search (rules, nearest_along, moved_units)
