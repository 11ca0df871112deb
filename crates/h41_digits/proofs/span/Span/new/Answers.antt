use Rattle.std.proofs.Common.{◌+◌, arith}
use Rattle.h41_digits.proofs.Spans.{shifted_places, places-le, next-le}
use Rattle.h41_digits.proofs.Packed.{weight_positive}
use Rattle.h41_digits.proofs.span.Span.new.Goals as goal

pub overflow_sub-result : goal.overflow_sub-result
overflow_sub-result c =
    omega (
      arith,
      shifted_places c.args.lo (omega (arith, c.requires.ordered, c.requires.in_register)),
      shifted_places (c.args.hi + 1) (omega (arith, c.requires.in_register)),
      places-le c.args.lo c.args.hi c.requires.ordered,
    )

pub invariant_of-result : goal.invariant_of-result
invariant_of-result c =
    let is_first = shifted_places c.args.lo (omega (arith, c.requires.ordered, c.requires.in_register)) in
    let is_next = shifted_places (c.args.hi + 1) (omega (arith, c.requires.in_register)) in record {
      ordered = c.requires.ordered;
      in_register = c.requires.in_register;
      fits = omega (arith, is_first, is_next, next-le c.args.hi c.requires.in_register, weight_positive c.args.lo);
      weights = omega (arith, is_first, is_next, places-le c.args.lo c.args.hi c.requires.ordered);
    }
