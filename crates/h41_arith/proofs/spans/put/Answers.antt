use Rattle.std.proofs.Common.{◌+◌, ◌-◌, ◌/◌, ◌^◌, arith}
use Rattle.h41_digits.proofs.Packed.{weight_positive}
use Rattle.h41_arith.proofs.InPlace.{whole_weight, whole_quotient, few_of_twice, in_parts}
use Rattle.h41_arith.proofs.spans.put.Goals as goal

pub returns-clause-parts : goal.returns-clause-parts
returns-clause-parts c =
    let span = c.args.span in
    let number = c.args.number in
    let n = number / 16 ^ span.lo in
    let limit = 16 ^ (span.hi + 1 - span.lo) in
    let whole = whole_weight span.lo span.hi span.ordered in
    let is = whole_quotient number (16 ^ span.lo) (weight_positive span.lo) c.requires.places in
    in_parts number n limit (16 ^ span.lo) span.mask _ (weight_positive span.lo) is
    (few_of_twice number n limit (16 ^ span.lo) (16 ^ (span.hi + 1)) is whole c.requires.most)
    (omega (arith, span.weights, whole)) c.with_span.ensures.number
