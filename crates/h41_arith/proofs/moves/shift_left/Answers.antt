use Rattle.std.proofs.Common.{if◌then◌else◌, ◌==◌, ◌≡◌, ◌+◌, ◌-◌, ◌*◌, ◌%◌, ◌^◌, arith, ap, slice_index, ◌∙◌}
use Rattle.std.proofs.Math.Nat.{mod-eq_of_lt}
use Rattle.h41_digits.specs.Register.{value}
use Rattle.h41_digits.proofs.Packed.{weight_positive}
use Rattle.h41_arith.proofs.Parts.{part, up, up-value, up-register, up_at, replaced_by}
use Rattle.h41_arith.proofs.InPlace.{is_quotient}
use Rattle.h41_arith.proofs.moves.shift_left.Goals as goal

pub returns-clause-digits : goal.returns-clause-digits
returns-clause-digits c =
    let span = c.args.span in
    let lo = span.lo in
    let hi = span.hi in
    let x = c.in_span.ensures in
    let z = c.with_span.ensures in
    let whole : c.in_span.result * 16 % 2 ^ 64 ≡ c.in_span.result * 16 = mod-eq_of_lt (omega (arith, x.within, span.fits)) in
    let moved : c.in_span.result * 16 % 2 ^ 64 ≡ value (part c.args.x lo hi) * 16 * 16 ^ lo = whole ∙ omega (arith, x.digits) in
    let is = is_quotient _ (value (part c.args.x lo hi) * 16) _ (weight_positive lo) moved in
    replaced_by c.args.into c.with_span.result (up c.args.x lo hi) lo hi
    (λ place. if place == lo then 0 else slice_index c.args.x (place - 1)) z.register span.ordered span.in_register
    (up-register c.args.x lo hi x.register span.ordered span.in_register)
    (z.number ∙ ap (λ n. n % 16 ^ (hi + 1 - lo)) is ∙ up-value c.args.x lo hi x.register span.ordered span.in_register) z.below z.above
    (λ place from to. up_at c.args.x lo hi place from to)
