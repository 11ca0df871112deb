use Rattle.std.specs.FinSet.{len-empty}
use Rattle.h41_breakpoints.specs.Breakpoints.{location_cmp}
use Rattle.h41_breakpoints.proofs.breakpoints.Breakpoints.new.Goals as goal

pub invariant_of-result : goal.invariant_of-result
invariant_of-result c = rw c.new.ensures (len-empty location_cmp, c.in_ok-new.ensures)
