use Rattle.std.proofs.Common.{slice_index, sym, ap, ◌%◌, ◌^◌, ◌-◌, ◌+◌, ◌∙◌}
use Rattle.std.proofs.Math.Nat.{mod-eq_of_lt}
use Rattle.h41_digits.proofs.Packed.{weight_positive}
use Rattle.h41_arith.proofs.Parts.{part, part-register, part-lt, part_at, replaced_by}
use Rattle.h41_arith.proofs.InPlace.{is_quotient}
use Rattle.h41_arith.proofs.moves.copy.Goals as goal

pub returns-clause-digits : goal.returns-clause-digits
returns-clause-digits c =
    let span = c.args.span in
    let lo = span.lo in
    let hi = span.hi in
    let x = c.in_span.ensures in
    let z = c.with_span.ensures in
    let is = is_quotient _ _ _ (weight_positive lo) x.digits in
    replaced_by c.args.into c.with_span.result (part c.args.x lo hi) lo hi
    (λ place. slice_index c.args.x place) z.register span.ordered span.in_register
    (part-register c.args.x lo hi x.register span.ordered span.in_register)
    (z.number ∙ ap (λ n. n % 16 ^ (hi + 1 - lo)) is ∙ mod-eq_of_lt (part-lt c.args.x lo hi x.register span.ordered span.in_register))
    z.below z.above
    (λ place from to. sym (part_at c.args.x lo hi place from to))
