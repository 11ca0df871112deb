use Rattle.h41_arith.proofs.Totals.{total_with, total_without}
use Rattle.h41_arith.proofs.sums.DigitOperation.digit_by_digit.Goals as goal

pub returns-then-carry_out : goal.returns-then-carry_out
returns-then-carry_out c lo hi mask =
    let is = c.from_mask-span.ensures.places lo hi mask in
    let made = c.over_places-digits in record {
      digits = made.result.0;
      carry_out = made.result.1;
      rule = rw (is.0, is.1) at made.ensures.result;
      number =
          rw c.if-carry_out.true (total_with made.result.0 lo hi _ _ mask.ordered
          (rw (is.0, is.1) at c.in_span-number.ensures.digits) (rw is.1 at c.first.ensures.next));
    }

pub returns-else-carry_out : goal.returns-else-carry_out
returns-else-carry_out c lo hi mask =
    let is = c.from_mask-span.ensures.places lo hi mask in
    let made = c.over_places-digits in record {
      digits = made.result.0;
      carry_out = made.result.1;
      rule = rw (is.0, is.1) at made.ensures.result;
      number = rw c.if-carry_out.false (total_without made.result.0 lo hi _ (rw (is.0, is.1) at c.in_span-number.ensures.digits));
    }
