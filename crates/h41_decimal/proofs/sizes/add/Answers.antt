-- What is rounded was cut from the exact value.
use Rattle.std.proofs.Common.{◌≡◌, ◌+◌, ◌-◌, ◌*◌, ◌^◌, ◌<◌, arith}
use Rattle.h41_decimal.proofs.Exact.{cut_sum, cut_apart_sum, places_counted, same_cut}
use Rattle.h41_decimal.proofs.Nearest.{ten_pow_pos}
use Rattle.h41_decimal.proofs.sizes.add.Goals as goal

pub returns-then-apart-le-COUNTED : goal.returns-then-apart-le-COUNTED
returns-then-apart-le-COUNTED c =
    let x = c.args.x in
    let y = c.args.y in
    let w : x.mantissa.digits * c.power_of_ten.result + y.mantissa.digits
    ≡ x.mantissa.digits * 10 ^ (x.exponent.biased - y.exponent.biased) + y.mantissa.digits = cc in
    c.round_whole.ensures _
    (same_cut _ _ _ _ _ w (omega arith)
    (cut_sum x.mantissa.digits y.mantissa.digits x.exponent.biased y.exponent.biased (x.exponent.biased - y.exponent.biased) (omega arith)))

pub returns-else-apart-le-COUNTED : goal.returns-else-apart-le-COUNTED
returns-else-apart-le-COUNTED c =
    let x = c.args.x in
    let y = c.args.y in
    let n = y.mantissa.digits in
    let s = x.exponent.biased in
    let t = y.exponent.biased in
    let q = c.without_last.result in
    let counted = places_counted n s t c.min-dropped.result q (omega arith) (omega arith) c.without_last.ensures y.mantissa.below in
    let more : (n * 10 ^ t) * 10 ^ 8 < ((n + 1) * 10 ^ t) * 10 ^ 8 = (let p = ten_pow_pos t in omega arith) in
    c.round_whole-else-apart-le-COUNTED.ensures _
    (cut_apart_sum x.mantissa.digits n s t q _ x.mantissa.at_least counted.0 (omega (arith, counted, more)) (omega arith))
