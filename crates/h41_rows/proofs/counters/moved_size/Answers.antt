use Rattle.std.proofs.Common.{rules}
use Rattle.h41_rows.proofs.Moved.{moved_down, moved_up}
use Rattle.h41_rows.proofs.counters.moved_size.Goals as goal
use Rattle.h41_rows.proofs.counters.moved_size.Goals.{then-grows, else-grows}

pub returns : goal.returns
returns c = search (rules, then-grows, moved_up, else-grows, moved_down)
