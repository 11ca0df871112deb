use Rattle.std.proofs.Common.{sym, ◌∙◌}
use Rattle.h41_program.specs.Searches.{end_in}
use Rattle.h41_walk.proofs.Walks.{asked_first, asked_none, asks_all, asks_more, end_here, end_other, ends_memory, ends_none, ends_program}
use Rattle.h41_walk.proofs.Walks.{found_at}
use Rattle.h41_walk.proofs.searches.end_from.Goals as goal

pub loop-place-init : goal.loop-place-init
loop-place-init g c = asks_all (g.C.Code.source c.args.code.now) c.args.from end_in

pub returns-then-place : goal.returns-then-place
returns-then-place g c lines reads =
    let has = c.in-Some.ensures.place in
    let found = found_at c.in-Some.place has.0 in
    asked_first (g.C.Code.source c.args.code.now) _ _ end_in end_in c.loop-place.invariant found lines _ has.1 reads
    (λ rest. end_here found.listed rest (ends_program has.0 (sym has.2 ∙ c.if-place.true)))

pub returns-then-place-2 : goal.returns-then-place-2
returns-then-place-2 g c lines reads =
    let has = c.in-Some.ensures.place in
    let found = found_at c.in-Some.place has.0 in
    asked_first (g.C.Code.source c.args.code.now) _ _ end_in end_in c.loop-place.invariant found lines _ has.1 reads
    (λ rest. end_here found.listed rest (ends_memory has.0 (sym has.3 ∙ c.if-place-2.true)))

pub loop-place-preserved : goal.loop-place-preserved
loop-place-preserved g c =
    let has = c.in-Some.ensures.place in
    let found = found_at c.in-Some.place has.0 in
    let other = ends_none has.0 (sym has.2 ∙ c.if-place.false) (sym has.3 ∙ c.if-place-2.false) in
    asks_more (g.C.Code.source c.args.code.now) _ _ end_in end_in c.loop-place.invariant end_in found has.1 other
    (λ rest. end_other found.listed rest other)

pub returns : goal.returns
returns g c lines reads =
    asked_none (g.C.Code.source c.args.code.now) _ _ end_in end_in c.loop-place.invariant lines c.in_default.ensures.none reads
