use Rattle.std.proofs.Common.{◌-◌, ◌*◌, ◌≤◌, ◌^◌, ap, refl, sym, arith}
use Rattle.h41_decimal.specs.Signs.{with_sign}
use Rattle.h41_decimal.specs.Units.{size}
use Rattle.h41_decimal.proofs.Signed.{signed-zero}
use Rattle.h41_decimal.proofs.Tens.{size_pos}
use Rattle.h41_decimal.proofs.Wholes.{all_ones, integer_of, ones_below, ones_cut, ones_whole, whole_digits}
use Rattle.h41_decimal.proofs.whole.integer_part.Goals as goal

pub returns-then-steps-ge-ONES : goal.returns-then-steps-ge-ONES
returns-then-steps-ge-ONES c =
    let m = c.args.x.mantissa.digits in
    let s = c.args.x.exponent.biased in
    let high : 108 ≤ s = omega arith in
    integer_of c.args.sign (size c.args.x) (m * 10 ^ (s - 108)) _ (size_pos c.args.x)
    (ones_whole m s high) (ap (with_sign c.args.sign) (sym (all_ones m s high)))

pub returns-then-steps-lt-LEAST : goal.returns-then-steps-lt-LEAST
returns-then-steps-lt-LEAST c =
    let x = c.args.x in
    integer_of c.args.sign (size x) 0 _ (size_pos x) (ones_below x.mantissa.digits x.exponent.biased x.mantissa.below (omega arith))
    (sym (signed-zero c.args.sign 0 refl))

pub invariant_of-mantissa : goal.invariant_of-mantissa
invariant_of-mantissa c =
    let x = c.args.x in
    let k = 108 - c.steps-steps.result in
    let h =
    whole_digits x.mantissa.digits x.exponent.biased k c.power_of_ten.result c.without_last.result c.power_of_ten.ensures
    c.without_last.ensures (omega arith) (omega arith) x.mantissa.at_least x.mantissa.below in
    record { at_least = h.0; below = h.1 }

pub returns : goal.returns
returns c =
    let x = c.args.x in
    let m = x.mantissa.digits in
    let s = x.exponent.biased in
    let k = 108 - c.steps-steps.result in
    let h =
    whole_digits m s k c.power_of_ten.result c.without_last.result c.power_of_ten.ensures
    c.without_last.ensures (omega arith) (omega arith) x.mantissa.at_least x.mantissa.below in
    let has = ones_cut m s k (10 ^ k) refl (omega arith) in
    integer_of c.args.sign (size x) c.without_last.result _ (size_pos x)
    (rw (sym c.without_last.ensures) at has) (ap (with_sign c.args.sign) h.2)
