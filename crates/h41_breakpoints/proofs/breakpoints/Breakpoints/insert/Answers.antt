use Rattle.std.proofs.Common.{◌≡◌, false, sym, ap, ◌∙◌}
use Rattle.h41_breakpoints.specs.Breakpoints.{BreakpointSet, is_set, with_breakpoint}
use Rattle.h41_breakpoints.specs.private.Members.{set_of}
use Rattle.h41_breakpoints.proofs.TableBits.{tables_pushed}
use Rattle.h41_breakpoints.proofs.Members.{once_pushed, set_again, set_pushed}
use Rattle.h41_breakpoints.proofs.breakpoints.Breakpoints.insert.Goals as goal

pub returns-then-contains-clause-change : goal.returns-then-contains-clause-change
returns-then-contains-clause-change c = set_again c.args.self.now c.args.location (sym c.contains.ensures ∙ c.if-contains.true)

pub invariant_of-self : goal.invariant_of-self
invariant_of-self c =
    let items = c.self.inside.items.items in
    let fresh : is_set (set_of items) c.args.location ≡ false =
    ap (λ (set : BreakpointSet). is_set set c.args.location) c.self.view_is ∙ sym c.contains.ensures ∙ c.if-contains.false in
    rw (c.push.ensures.items, c.set.ensures) (
      once_pushed items c.args.location c.self.invariant.0 fresh,
      tables_pushed items c.self.inside.tables c.args.location c.self.invariant.1,
    )

pub returns-clause-change : goal.returns-clause-change
returns-clause-change c =
    ap set_of c.push.ensures.items ∙ set_pushed c.self.inside.items.items c.args.location
    ∙ ap (with_breakpoint c.args.location) c.self.view_is
