use Rattle.h41_arith.specs.declared.sums.DigitOperation.TheVariants.{Subtract}
use Rattle.h41_arith.proofs.InPlace.{span_decimal}
use Rattle.h41_arith.proofs.Totals.{Tells, rule_tells, difference_tells}
use Rattle.h41_arith.proofs.sums.decimal_difference.Goals as goal

tells : (c : goal.After-digit_by_digit-total)
    → Tells Subtract c.args.x c.args.y c.args.borrow_in c.args.span.lo c.args.span.hi c.digit_by_digit-total.result
tells c =
    let span = c.args.span in
    rule_tells Subtract c.args.x c.args.y c.args.borrow_in span.lo span.hi _ span.ordered span.in_register
    (c.digit_by_digit-total.ensures span.lo span.hi
    (record { ordered = span.ordered; in_register = span.in_register; weights = span.weights }))

pub put-requires-clause-places : goal.put-requires-clause-places
put-requires-clause-places c = (tells c).places

pub put-requires-clause-most : goal.put-requires-clause-most
put-requires-clause-most c = (tells c).most

pub returns-then-has_letter : goal.returns-then-has_letter
returns-then-has_letter c =
    let z = c.put.ensures in
    (tells c.before).result c.args.into c.put.result.0 c.put.result.1 z.register z.parts z.below z.above

pub returns : goal.returns
returns c =
    let span = c.args.span in
    let first = c.in_span-first.ensures in
    let second = c.in_span-second.ensures in
    let z = c.with_span.ensures in
    difference_tells c.args.into c.args.x c.args.y c.with_span.result c.args.borrow_in span.lo
    span.hi _ _ _ _ first.register second.register z.register span.ordered span.in_register
    (span_decimal c.args.y span.lo span.hi span.mask c.sixes.result _ _ second.register span.ordered span.in_register
    span.weights c.sixes.ensures.fifths second.digits c.has_letter.ensures c.if-has_letter.false)
    first.digits second.digits c.carry_in_span-borrow.ensures.value c.decimal_remainder.ensures z.number z.below z.above
