use Rattle.h41_arith.specs.declared.sums.DigitOperation.TheVariants.{Add}
use Rattle.h41_arith.proofs.InPlace.{sixes_in_place, span_decimal, span_most}
use Rattle.h41_arith.proofs.Totals.{Tells, rule_tells, sum_tells}
use Rattle.h41_arith.proofs.sums.decimal_sum.Goals as goal
use Rattle.h41_arith.proofs.sums.decimal_sum.Goals.{then-has_letter, else-has_letter}

pub decimal_total-total-requires-clause-first : goal.decimal_total-total-requires-clause-first
decimal_total-total-requires-clause-first c =
    let span = c.args.span in
    let first = c.in_span-first.ensures in
    span_most c.args.x span.lo span.hi span.mask c.sixes-sixes.result _ first.register
    span.ordered span.in_register span.weights c.sixes-sixes.ensures.fifths first.digits
    (span_decimal c.args.x span.lo span.hi span.mask c.sixes-sixes.result _ _ first.register span.ordered span.in_register
    span.weights c.sixes-sixes.ensures.fifths first.digits c.has_letter.ensures c.if-has_letter.false)

tells : (c : goal.Joined-has_letter) → Tells Add c.args.x c.args.y c.args.carry_in c.args.span.lo c.args.span.hi c.if-has_letter.total
tells c =
    let span = c.args.span in
    let first = c.in_span-first.ensures in
    let second = c.in_span-second.ensures in
    elim c.if-has_letter.branch [
      | then-has_letter w ↦ rw w.total-is (rule_tells Add c.args.x c.args.y c.args.carry_in span.lo span.hi _ span.ordered span.in_register
          (w.digit_by_digit-total.ensures span.lo span.hi
          (record { ordered = span.ordered; in_register = span.in_register; weights = span.weights })))
      | else-has_letter w ↦
          rw w.total-is (sum_tells c.args.x c.args.y c.args.carry_in span.lo span.hi _
          _ _ _ _ first.register second.register span.ordered span.in_register
          (span_decimal c.args.x span.lo span.hi span.mask c.sixes-sixes.result _ _ first.register span.ordered span.in_register
          span.weights c.sixes-sixes.ensures.fifths first.digits c.has_letter.ensures w.if-has_letter.false)
          first.digits second.digits w.carry_in_span.ensures.value
          (sixes_in_place span.lo span.hi span.mask c.sixes-sixes.result span.ordered span.weights c.sixes-sixes.ensures.fifths)
          w.decimal_total-total.ensures)
    ]

pub put-requires-clause-places : goal.put-requires-clause-places
put-requires-clause-places c = (tells c).places

pub put-requires-clause-most : goal.put-requires-clause-most
put-requires-clause-most c = (tells c).most

pub returns : goal.returns
returns c =
    let z = c.put.ensures in
    (tells c.before).result c.args.into c.put.result.0 c.put.result.1 z.register z.parts z.below z.above
