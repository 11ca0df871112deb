use Rattle.std.proofs.Common.{◌-◌, ◌*◌, ◌%◌, ◌^◌, ◌<◌, ◌≤◌, ap, ◌∙◌, arith}
use Rattle.std.proofs.Math.Nat.{mul-le-mul, pow-le-pow_right}
use Rattle.std.proofs.lemmas.Nat.{mod_below}
use Rattle.h41_decimal.proofs.Floors.{remainder_step}
use Rattle.h41_decimal.proofs.modulo.+remainder.Goals as goal

pub overflow_mul-number : goal.overflow_mul-number
overflow_mul-number t c =
    let a : c.args.number % c.args.divisor < c.args.divisor = mod_below c.args.number c.args.divisor c.requires.some in
    let a' : c.args.number % c.args.divisor ≤ 10 ^ 10 = omega arith in
    let ten : 0 < 10 = omega arith in
    let few : c.min-step.result ≤ 9 = omega arith in
    let b : 10 ^ c.min-step.result ≤ 10 ^ 9 = pow-le-pow_right ten few in
    let b' : c.power_of_ten.result ≤ 10 ^ 9 = omega arith in
    let p : c.args.number % c.args.divisor * c.power_of_ten.result ≤ 10 ^ 10 * 10 ^ 9 = mul-le-mul a' b' in
    omega arith

pub returns : goal.returns
returns t c =
    let n = c.args.number in
    let v = c.args.divisor in
    c.remainder.ensures
    ∙ (ap (λ k. ((n % v) * k) * 10 ^ (c.args.power - c.min-step.result) % v) c.power_of_ten.ensures
    ∙ remainder_step n v c.min-step.result c.args.power (c.args.power - c.min-step.result) (omega arith))
