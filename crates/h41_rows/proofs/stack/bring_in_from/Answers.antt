use Rattle.std.proofs.Common.{rules}
use Rattle.h41_rows.proofs.Lifts.{from_place}
use Rattle.h41_rows.proofs.stack.bring_in_from.Goals as goal

pub returns-clause-change : goal.returns-clause-change
returns-clause-change g c named place register same = search (rules, from_place)
