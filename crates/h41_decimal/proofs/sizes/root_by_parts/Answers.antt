-- A root that is too high is one too high.
use Rattle.std.proofs.Common.{◌≡◌, ◌+◌, ◌-◌, ◌*◌, ◌/◌, ◌^◌, ◌<◌, ◌≤◌, arith}
use Rattle.std.proofs.Math.Nat.{div-mul-le_self}
use Rattle.h41_decimal.proofs.Roots.{more_below, six_digits}
use Rattle.h41_decimal.proofs.sizes.root_by_parts.Goals as goal

pub returns-then-from-clause-square : goal.returns-then-from-clause-square
returns-then-from-clause-square c =
    let n = c.args.number in
    let s = c.isqrt-six.result in
    let d = n - s * s in
    let root = s * 10 ^ 5 + d * 10 ^ 5 / (2 * s) in
    let low : s * s ≤ n = c.isqrt-six.ensures.square_le in
    let high : n < (s + 1) * (s + 1) = c.isqrt-six.ensures.next_square_gt in
    let square : c.from.result * c.from-2.result ≡ root * root = cc in
    let above : n * 10 ^ 10 < root * root = omega (arith, square, c.if-from.true, c.from-3.ensures) in
    more_below n s d (d * 10 ^ 5 / (2 * s)) (omega arith) (omega arith) (six_digits n s c.requires.at_least high)
    (div-mul-le_self (d * 10 ^ 5) (2 * s)) above
