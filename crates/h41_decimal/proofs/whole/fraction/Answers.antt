use Rattle.std.proofs.Common.{◌≡◌, ◌-◌, ◌*◌, ◌/◌, ◌%◌, ◌≤◌, ◌^◌, ap, ◌∙◌, refl, arith}
use Rattle.h41_decimal.specs.Signs.{with_sign}
use Rattle.h41_decimal.specs.Units.{size}
use Rattle.h41_decimal.proofs.Nearest.{ten_pow_pos}
use Rattle.h41_decimal.proofs.Tens.{size_pos}
use Rattle.h41_decimal.proofs.Wholes.{all_ones, ones_whole, ones_below, ones_cut, split_at_ones, fraction_of, no_fraction}
use Rattle.h41_decimal.proofs.whole.fraction.Goals as goal

pub returns-then-steps-ge-ONES : goal.returns-then-steps-ge-ONES
returns-then-steps-ge-ONES c =
    let m = c.args.x.mantissa.digits in
    let s = c.args.x.exponent.biased in
    let high : 108 ≤ s = omega arith in
    no_fraction c.args.sign (size c.args.x) (m * 10 ^ (s - 108)) (size_pos c.args.x) (ones_whole m s high) (all_ones m s high)

pub returns-then-steps-lt-LEAST : goal.returns-then-steps-lt-LEAST
returns-then-steps-lt-LEAST c =
    let x = c.args.x in
    fraction_of c.args.sign (size x) 0 (size x) _ (size_pos x)
    (ones_below x.mantissa.digits x.exponent.biased x.mantissa.below (omega arith)) (omega arith) refl

pub nonzero_rem-rest : goal.nonzero_rem-rest
nonzero_rem-rest c = rw c.power_of_ten.ensures (ten_pow_pos (108 - c.steps-steps.result))

pub returns-then-rest-eq0 : goal.returns-then-rest-eq0
returns-then-rest-eq0 c =
    let m = c.args.x.mantissa.digits in
    let s = c.args.x.exponent.biased in
    let p = c.power_of_ten.result in
    let k = 108 - c.steps-steps.result in
    let none : m % p ≡ 0 = cc in
    let r : m % p * 10 ^ s ≡ 0 * 10 ^ s = ap (λ t. t * 10 ^ s) none in
    let split = split_at_ones m s k p c.power_of_ten.ensures (omega arith) in
    no_fraction c.args.sign (size c.args.x) (m / p) (size_pos c.args.x)
    (ones_cut m s k p c.power_of_ten.ensures (omega arith)) (omega arith)

pub returns : goal.returns
returns c =
    let m = c.args.x.mantissa.digits in
    let s = c.args.x.exponent.biased in
    let p = c.power_of_ten.result in
    let k = 108 - c.steps-steps.result in
    let same : m % p * 10 ^ c.steps-steps.result ≡ m % p * 10 ^ s = cc in
    fraction_of c.args.sign (size c.args.x) (m / p) (m % p * 10 ^ s) _
    (size_pos c.args.x) (ones_cut m s k p c.power_of_ten.ensures (omega arith))
    (split_at_ones m s k p c.power_of_ten.ensures (omega arith)) (c.decimal.ensures ∙ ap (with_sign c.args.sign) same)
