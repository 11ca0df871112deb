use Rattle.std.proofs.Common.{◌≡◌, ◌+◌, ◌-◌, ◌*◌, ◌^◌, ◌≤◌, arith}
use Rattle.h41_digits.specs.Register.{value_between}
use Rattle.h41_digits.proofs.Packed.{weight_positive}
use Rattle.h41_arith.specs.DigitRule.{carry_digit}
use Rattle.h41_arith.proofs.Carries.{carry_le}
use Rattle.h41_arith.proofs.Hexadecimal.{difference_result}
use Rattle.h41_arith.proofs.Parts.{part-lt}
use Rattle.h41_arith.proofs.InPlace.{difference_at, whole_word}
use Rattle.h41_arith.proofs.sums.hexadecimal_difference.Goals as goal

pub returns : goal.returns
returns c =
    let span = c.args.span in
    let lo = span.lo in
    let hi = span.hi in
    let first = c.in_span-first.ensures in
    let second = c.in_span.ensures in
    let z = c.with_span.ensures in
    let t = value_between c.args.y lo hi + carry_digit c.args.borrow_in in
    let taken : c.in_span.result + c.carry_in_span.result ≡ t * 16 ^ lo = omega (arith, second.digits, c.carry_in_span.ensures.value) in
    let most : t ≤ 16 ^ (hi + 1 - lo) =
    omega (arith, part-lt c.args.y lo hi second.register span.ordered span.in_register, carry_le c.args.borrow_in) in
    let left =
    difference_at _ _ (value_between c.args.x lo hi) t (16 ^ (hi + 1 - lo))
    (16 ^ lo) (16 ^ (15 - hi)) (2 ^ 64) (weight_positive lo) first.digits taken
    (part-lt c.args.x lo hi first.register span.ordered span.in_register) most
    (weight_positive (15 - hi)) (whole_word lo hi span.ordered span.in_register) in
    difference_result c.args.into c.args.x c.args.y c.with_span.result c.args.borrow_in _
    lo hi first.register second.register z.register span.ordered span.in_register
    (omega (arith, z.number, left)) z.below z.above
