use Rattle.std.proofs.Common.{◌≡◌, ◌*◌, ◌/◌, ◌^◌, ap, ◌∙◌, arith}
use Rattle.h41_decimal.proofs.Exact.{quotient_by_parts}
use Rattle.h41_decimal.proofs.sizes.quotient_by_parts.Goals as goal

pub returns : goal.returns
returns c =
    let m = c.args.number in
    let n = c.args.divisor in
    let whole : m * 1000000000 * 100 ≡ m * 10 ^ 11 = omega arith in
    quotient_by_parts (m * 1000000000) n (omega (arith, c.requires.long)) ∙ ap (λ k. k / n) whole
