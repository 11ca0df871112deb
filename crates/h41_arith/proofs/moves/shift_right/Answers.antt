use Rattle.std.proofs.Common.{if◌then◌else◌, ◌==◌, ◌+◌, ◌-◌, ◌%◌, ◌^◌, ap, slice_index, ◌∙◌}
use Rattle.std.proofs.Math.Nat.{mod-eq_of_lt}
use Rattle.h41_digits.proofs.Packed.{weight_positive}
use Rattle.h41_arith.proofs.Parts.{part-lt, down, down-value, down-register, down_at, sixteenth, replaced_by}
use Rattle.h41_arith.proofs.InPlace.{sixteenth_at}
use Rattle.h41_arith.proofs.moves.shift_right.Goals as goal

pub returns-clause-digits : goal.returns-clause-digits
returns-clause-digits c =
    let span = c.args.span in
    let lo = span.lo in
    let hi = span.hi in
    let x = c.in_span.ensures in
    let z = c.with_span.ensures in
    let is = sixteenth_at _ _ _ (weight_positive lo) x.digits in
    replaced_by c.args.into c.with_span.result (down c.args.x lo hi) lo hi
    (λ place. if place == hi then 0 else slice_index c.args.x (place + 1)) z.register span.ordered span.in_register
    (down-register c.args.x lo hi x.register span.ordered span.in_register)
    (z.number ∙ ap (λ n. n % 16 ^ (hi + 1 - lo)) is
    ∙ mod-eq_of_lt (sixteenth _ _ (part-lt c.args.x lo hi x.register span.ordered span.in_register))
    ∙ down-value c.args.x lo hi x.register span.ordered span.in_register) z.below z.above
    (λ place from to. down_at c.args.x lo hi place x.register span.in_register from to)
