use Rattle.std.proofs.Common.{sym, ◌∙◌}
use Rattle.h41_walk.specs.Searches.{label_position}
use Rattle.h41_walk.proofs.Walks.{asked_first, asked_last, asked_none, asks_all, asks_more, ends_memory, ends_none, ends_program}
use Rattle.h41_walk.proofs.Walks.{found_at, label_here, label_last, label_other}
use Rattle.h41_walk.proofs.searches.label_from.Goals as goal

pub loop-place-init : goal.loop-place-init
loop-place-init g c = asks_all (g.C.Code.source c.args.code.now) c.args.from (label_position c.args.label)

pub returns-then-is_label_at : goal.returns-then-is_label_at
returns-then-is_label_at g c lines reads =
    let has = c.in-Some.ensures.place in
    let found = found_at c.in-Some.place has.0 in
    let asked = label_position c.args.label in
    asked_first (g.C.Code.source c.args.code.now) _ _ asked asked c.loop-place.invariant found lines _ has.1 reads
    (λ rest. label_here c.args.label found.listed rest (sym (c.is_label_at.ensures has.0 has.1) ∙ c.if-is_label_at.true))

pub returns-then-place : goal.returns-then-place
returns-then-place g c lines reads =
    let has = c.in-Some.ensures.place in
    let found = found_at c.in-Some.place has.0 in
    let asked = label_position c.args.label in
    asked_last (g.C.Code.source c.args.code.now) _ _ asked asked c.loop-place.invariant found lines _ has.1
    (ends_program has.0 (sym has.2 ∙ c.if-place.true)) reads
    (label_last c.args.label found.listed (sym (c.is_label_at.ensures has.0 has.1) ∙ c.if-is_label_at.false))

pub returns-then-place-2 : goal.returns-then-place-2
returns-then-place-2 g c lines reads =
    let has = c.in-Some.ensures.place in
    let found = found_at c.in-Some.place has.0 in
    let asked = label_position c.args.label in
    asked_last (g.C.Code.source c.args.code.now) _ _ asked asked c.loop-place.invariant found lines _ has.1
    (ends_memory has.0 (sym has.3 ∙ c.if-place-2.true)) reads
    (label_last c.args.label found.listed (sym (c.is_label_at.ensures has.0 has.1) ∙ c.if-is_label_at.false))

pub loop-place-preserved : goal.loop-place-preserved
loop-place-preserved g c =
    let has = c.in-Some.ensures.place in
    let found = found_at c.in-Some.place has.0 in
    let asked = label_position c.args.label in
    let other = ends_none has.0 (sym has.2 ∙ c.if-place.false) (sym has.3 ∙ c.if-place-2.false) in
    asks_more (g.C.Code.source c.args.code.now) _ _ asked asked c.loop-place.invariant asked found has.1 other
    (λ rest. label_other c.args.label found.listed rest other (sym (c.is_label_at.ensures has.0 has.1) ∙ c.if-is_label_at.false))

pub returns : goal.returns
returns g c lines reads =
    let asked = label_position c.args.label in
    asked_none (g.C.Code.source c.args.code.now) _ _ asked asked c.loop-place.invariant lines c.in_default.ensures.none reads
