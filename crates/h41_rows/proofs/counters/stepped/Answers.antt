use Rattle.std.proofs.Common.{rules}
use Rattle.h41_rows.proofs.Counts.{counted_back, counted_out, counted_over, counted_same}
use Rattle.h41_rows.proofs.counters.stepped.Goals as goal

pub returns-then-eq : goal.returns-then-eq
returns-then-eq c = search (rules, counted_same)

pub returns-then-ones-count : goal.returns-then-ones-count
returns-then-ones-count c = search (rules, counted_back)

pub returns-then-ones-count-2 : goal.returns-then-ones-count-2
returns-then-ones-count-2 c = search (rules, counted_over)

pub returns-else-ones-count-2 : goal.returns-else-ones-count-2
returns-else-ones-count-2 c = search (rules, counted_out)
