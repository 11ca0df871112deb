use Rattle.std.proofs.Common.{sym, ◌∙◌}
use Rattle.h41_breakpoints.proofs.Members.{none_set}
use Rattle.h41_debug.proofs.Advancing.{breaks, goes_past}
use Rattle.h41_debug.specs.Positions.{location_of}
use Rattle.h41_debug.proofs.bench.Bench.stop_at_breakpoint.Goals as goal

pub returns-then-not-watched : goal.returns-then-not-watched
returns-then-not-watched g c =
    let s = c.args.self.now.state in
    goes_past s (sym (none_set s.breakpoints (location_of s.calculator) (c.requires c.if-not-watched.true)))

pub returns-then-has_breakpoint : goal.returns-then-has_breakpoint
returns-then-has_breakpoint g c =
    breaks c.args.self.now.state (rw c.location.ensures at (sym c.has_breakpoint.ensures ∙ c.if-has_breakpoint.true))

pub returns : goal.returns
returns g c = goes_past c.args.self.now.state (rw c.location.ensures at (sym c.has_breakpoint.ensures ∙ c.if-has_breakpoint.false))
