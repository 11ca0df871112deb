use Rattle.std.proofs.Common.{ap, ◌∙◌}
use Rattle.std.specs.List.{list_any}
use Rattle.h41_breakpoints.specs.Breakpoints.{BreakpointSet, is_set}
use Rattle.h41_breakpoints.specs.private.Members.{is_same}
use Rattle.h41_breakpoints.proofs.Members.{set_has}
use Rattle.h41_breakpoints.proofs.breakpoints.Breakpoints.contains.Goals as goal

pub returns-in-None : goal.returns-in-None
returns-in-None c =
    c.is_among.ensures ∙ ap (list_any (is_same c.args.location)) c.as_slice.ensures.value
    ∙ set_has c.self.inside.items.items c.args.location ∙ ap (λ (set : BreakpointSet). is_set set c.args.location) c.self.view_is
