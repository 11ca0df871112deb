use Rattle.std.proofs.Common.{◌≡◌, ◌-◌, [], sym, subst, ◌∙◌, arith}
use Rattle.h41_program.specs.Numbering.{numbered_in}
use Rattle.h41_walk.proofs.Walks.{Asks, asked_first, asked_last, asked_none, asks_all, asks_more, numbered_here, numbered_other}
use Rattle.h41_walk.proofs.Walks.{other_test, same_test}
use Rattle.h41_walk.proofs.numbering.numbered_from.Goals as goal

pub loop-found-init : goal.loop-found-init
loop-found-init g c = asks_all (g.C.Code.source c.args.code.now) c.args.from (numbered_in c.args.number)

pub returns-then-left-eq1 : goal.returns-then-left-eq1
returns-then-left-eq1 g c lines reads =
    asked_first (g.C.Code.source c.args.code.now) _ _ _ _ c.loop-found.invariant c.in-Some.found lines _ c.in-Some.ensures.first reads
    (λ rest. numbered_here c.loop-found.left c.in-Some.found.listed rest (same_test _ _ c.if-left-eq1.true))

pub returns-then-is_program_end : goal.returns-then-is_program_end
returns-then-is_program_end g c lines reads =
    asked_last (g.C.Code.source c.args.code.now) _ _ _ _ c.loop-found.invariant c.in-Some.found lines _ c.in-Some.ensures.first
    (sym c.is_program_end.ensures ∙ c.if-is_program_end.true) reads
    (numbered_other c.loop-found.left c.in-Some.found.listed [] (other_test _ _ c.if-left-eq1.false))

pub loop-found-preserved : goal.loop-found-preserved
loop-found-preserved g c =
    let source = g.C.Code.source c.args.code.now in
    let left = c.loop-found.left in
    let less : c.saturating_sub-left.result ≡ left - 1 = omega (arith, c.saturating_sub-left.ensures) in
    subst (λ n. Asks source c.args.from c.in-Some.found.behind (numbered_in c.args.number) (numbered_in n)) (sym less)
    (asks_more source _ _ _ _ c.loop-found.invariant (numbered_in (left - 1)) c.in-Some.found c.in-Some.ensures.first
    (sym c.is_program_end.ensures ∙ c.if-is_program_end.false)
    (λ rest. numbered_other left c.in-Some.found.listed rest (other_test _ _ c.if-left-eq1.false)))

pub returns : goal.returns
returns g c lines reads =
    asked_none (g.C.Code.source c.args.code.now) _ _ _ _ c.loop-found.invariant lines c.in_default.ensures.none reads
