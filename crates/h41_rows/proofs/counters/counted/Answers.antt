-- If the integer part keeps its sign, the increment is added to the whole number.
use Rattle.std.proofs.Common.{rules}
use Rattle.std.proofs.lemmas.Bool.{ltb-true}
use Rattle.h41_decimal.proofs.Tens.{signs_same}
use Rattle.h41_rows.proofs.Counts.{moves_whole}
use Rattle.h41_rows.proofs.Loops.{told-le}
use Rattle.h41_rows.proofs.counters.counted.Goals as goal
use Rattle.h41_rows.proofs.counters.counted.Goals.{then-eq, else-eq}

pub returns-then-ones-count : goal.returns-then-ones-count
returns-then-ones-count c = search (rules, then-eq, signs_same, else-eq, ltb-true, told-le, moves_whole)
