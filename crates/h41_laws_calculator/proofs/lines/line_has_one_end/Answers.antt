use Rattle.std.proofs.Common.{rules}
use Rattle.h41_laws_calculator.proofs.Placed.{next_or_none}
use Rattle.h41_laws_calculator.proofs.Carried.{one_end}
use Rattle.h41_laws_calculator.proofs.lines.line_has_one_end.Goals as goal

pub returns : goal.returns
returns c = search (rules, one_end, next_or_none)
