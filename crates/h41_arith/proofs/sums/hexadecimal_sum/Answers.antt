use Rattle.std.proofs.Common.{◌∙◌, rules}
use Rattle.h41_digits.proofs.Packed.{weight_positive}
use Rattle.h41_arith.proofs.Hexadecimal.{sum_result}
use Rattle.h41_arith.proofs.InPlace.{sum_at, is_multiple, is_quotient}
use Rattle.h41_arith.proofs.sums.hexadecimal_sum.Goals as goal

pub put-requires-clause-places : goal.put-requires-clause-places
put-requires-clause-places c =
    is_multiple _ _ _ (sum_at _ _ _ _ _ _ _ c.in_span-first.ensures.digits c.in_span-second.ensures.digits c.carry_in_span.ensures.value)

pub put-requires-clause-most : goal.put-requires-clause-most
put-requires-clause-most c = search (rules, weight_positive)

pub returns : goal.returns
returns c =
    let span = c.args.span in
    let first = c.in_span-first.ensures in
    let second = c.in_span-second.ensures in
    let z = c.put.ensures in
    sum_result c.args.into c.args.x c.args.y c.put.result.0 c.args.carry_in c.put.result.1
    span.lo span.hi first.register second.register z.register span.ordered span.in_register
    (z.parts ∙ is_quotient _ _ _ (weight_positive span.lo) (sum_at _ _ _ _ _ _ _ first.digits second.digits c.carry_in_span.ensures.value))
    z.below z.above
