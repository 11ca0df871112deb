use Rattle.std.proofs.Common.{arith}
use Rattle.h41_digits.proofs.Packed.{weight_positive}
use Rattle.h41_digits.proofs.Spans.{first_one, sixteen_le}
use Rattle.h41_digits.proofs.span.Span.first.Goals as goal

pub returns-clause-weight : goal.returns-clause-weight
returns-clause-weight c =
    let span = c.args.self.now in
    first_one span.lo span.hi span.mask c.wrapping_neg.result span.ordered span.in_register
    span.weights span.fits c.wrapping_neg.type_inv c.wrapping_neg.ensures

pub returns-clause-next : goal.returns-clause-next
returns-clause-next c =
    let span = c.args.self.now in
    omega (
      arith,
      span.weights,
      first_one span.lo span.hi span.mask c.wrapping_neg.result span.ordered span.in_register
          span.weights span.fits c.wrapping_neg.type_inv c.wrapping_neg.ensures,
    )

pub returns-clause-positive : goal.returns-clause-positive
returns-clause-positive c =
    let span = c.args.self.now in
    omega (
      arith,
      weight_positive span.lo,
      first_one span.lo span.hi span.mask c.wrapping_neg.result span.ordered span.in_register
          span.weights span.fits c.wrapping_neg.type_inv c.wrapping_neg.ensures,
    )

pub returns-clause-within : goal.returns-clause-within
returns-clause-within c =
    let span = c.args.self.now in
    omega (
      arith,
      span.weights,
      sixteen_le span.lo span.hi span.ordered,
      first_one span.lo span.hi span.mask c.wrapping_neg.result span.ordered span.in_register
          span.weights span.fits c.wrapping_neg.type_inv c.wrapping_neg.ensures,
    )
