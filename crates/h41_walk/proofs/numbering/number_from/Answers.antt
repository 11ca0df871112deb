use Rattle.std.proofs.Common.{◌+◌, [], sym, ◌∙◌, arith}
use Rattle.h41_walk.proofs.Walks.{asked_first, asked_last, asked_none, asks_more, counted, counted_here, counted_none, counted_other}
use Rattle.h41_walk.proofs.Walks.{other_test, same_test}
use Rattle.h41_walk.proofs.numbering.number_from.Goals as goal

pub loop-found-init : goal.loop-found-init
loop-found-init g c = (counted_none (g.C.Code.source c.args.code.now) c.args.from c.args.position, omega arith)

pub returns-then-listed-position-clause-is : goal.returns-then-listed-position-clause-is
returns-then-listed-position-clause-is g c lines reads =
    asked_first (g.C.Code.source c.args.code.now) _ _ _ _ c.loop-found.invariant.0 c.in-Some.found lines _ c.in-Some.ensures.first reads
    (λ rest. counted_here c.loop-found.count c.args.position c.in-Some.found.listed rest (same_test _ _ c.if-listed-position.true))

pub returns-then-is_program_end-clause-is : goal.returns-then-is_program_end-clause-is
returns-then-is_program_end-clause-is g c lines reads =
    asked_last (g.C.Code.source c.args.code.now) _ _ _ _ c.loop-found.invariant.0 c.in-Some.found lines _ c.in-Some.ensures.first
    (sym c.is_program_end.ensures ∙ c.if-is_program_end.true) reads
    (counted_other c.loop-found.count c.args.position c.in-Some.found.listed [] (other_test _ _ c.if-listed-position.false))

pub loop-found-preserved : goal.loop-found-preserved
loop-found-preserved g c = (
  asks_more (g.C.Code.source c.args.code.now) _ _ _ _ c.loop-found.invariant.0 (counted (c.loop-found.count + 1) c.args.position)
      c.in-Some.found c.in-Some.ensures.first (sym c.is_program_end.ensures ∙ c.if-is_program_end.false)
      (λ rest. counted_other c.loop-found.count c.args.position c.in-Some.found.listed rest (other_test _ _ c.if-listed-position.false)),
  omega (arith, c.loop-found.invariant.1, c.in-Some.ensures.first.onward),
)

pub returns-clause-is : goal.returns-clause-is
returns-clause-is g c lines reads =
    asked_none (g.C.Code.source c.args.code.now) _ _ _ _ c.loop-found.invariant.0 lines c.in_default.ensures.none reads
