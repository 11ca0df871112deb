-- The parts of the counter decide whether the loop continues.
use Rattle.std.proofs.Common.{rules}
use Rattle.h41_rows.proofs.Loops.{goes_on_down, goes_on_up}
use Rattle.h41_rows.proofs.counters.goes_on.Goals as goal

pub returns-in-Plus : goal.returns-in-Plus
returns-in-Plus c = search (rules, goes_on_up)

pub returns-in-Minus : goal.returns-in-Minus
returns-in-Minus c = search (rules, goes_on_down)
