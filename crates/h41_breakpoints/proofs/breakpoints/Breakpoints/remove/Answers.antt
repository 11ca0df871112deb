use Rattle.std.proofs.Common.{◌≡◌, Some, sym, ap, ◌∙◌}
use Rattle.std.specs.Prelude.{not, position}
use Rattle.std.proofs.lemmas.List.Folds.{list_any_at}
use Rattle.std.proofs.lemmas.List.Quantifiers.{position-Some}
use Rattle.h41_breakpoints.specs.Breakpoints.{BreakpointSet, is_set, without_breakpoint}
use Rattle.h41_breakpoints.specs.private.Members.{is_same}
use Rattle.h41_breakpoints.proofs.TableBits.{tables_left}
use Rattle.h41_breakpoints.proofs.Members.{none_found, set_has, taken}
use Rattle.h41_breakpoints.proofs.breakpoints.Breakpoints.remove.Goals as goal

pub invariant_of-self : goal.invariant_of-self
invariant_of-self c =
    let items = c.self.inside.items.items in
    let found = ap (position (is_same c.args.location)) (sym c.as_slice.ensures.value) ∙ sym c.in-Some.ensures in
    let left =
    taken items _ c.args.location c.swap_remove.result c.in-Some.index c.self.invariant.0 found
    c.swap_remove.ensures.value c.swap_remove.ensures.items c.swap_remove.ensures.len in
    rw c.set.ensures (left.once, tables_left items _ c.self.inside.tables c.args.location left.set c.self.invariant.1)

pub returns-in-Some-clause-refusal : goal.returns-in-Some-clause-refusal
returns-in-Some-clause-refusal c =
    let b = c.args.location in
    let items = c.self.inside.items.items in
    let found : position (is_same b) items ≡ Some c.in-Some.index =
    ap (position (is_same b)) (sym c.as_slice.ensures.value) ∙ sym c.in-Some.ensures in
    let place = position-Some (is_same b) items c.in-Some.index b found in
    let had = list_any_at (is_same b) items c.in-Some.index b place.0 place.1 in
    ap not (sym had ∙ set_has items b ∙ ap (λ (set : BreakpointSet). is_set set b) c.self.view_is)

pub returns-in-Some-clause-change : goal.returns-in-Some-clause-change
returns-in-Some-clause-change c =
    let items = c.self.inside.items.items in
    let found = ap (position (is_same c.args.location)) (sym c.as_slice.ensures.value) ∙ sym c.in-Some.ensures in
    let left =
    taken items _ c.args.location c.swap_remove.result c.in-Some.index c.self.invariant.0 found
    c.swap_remove.ensures.value c.swap_remove.ensures.items c.swap_remove.ensures.len in
    left.set ∙ ap (without_breakpoint c.args.location) c.self.view_is

pub returns-in-None-clause-refusal : goal.returns-in-None-clause-refusal
returns-in-None-clause-refusal c =
    let b = c.args.location in
    let items = c.self.inside.items.items in
    let none = none_found (is_same b) items (ap (position (is_same b)) (sym c.as_slice.ensures.value) ∙ sym c.in-None.ensures) in
    ap not (sym none ∙ set_has items b ∙ ap (λ (set : BreakpointSet). is_set set b) c.self.view_is)
