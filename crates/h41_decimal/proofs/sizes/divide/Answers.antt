-- What is rounded was cut from the exact value.
use Rattle.std.proofs.Common.{◌^◌, ◌<◌, ◌≤◌, arith}
use Rattle.h41_decimal.proofs.Exact.{cut_quotient}
use Rattle.h41_decimal.proofs.sizes.divide.Goals as goal

pub returns : goal.returns
returns c =
    let x = c.args.x in
    let y = c.args.y in
    let m = x.mantissa.digits in
    let n = y.mantissa.digits in
    let m_size : 10 ^ 9 ≤ m = x.mantissa.at_least in
    let n_size : n < 10 ^ 10 = y.mantissa.below in
    let n_least : 10 ^ 9 ≤ n = y.mantissa.at_least in
    let low : y.exponent.biased ≤ 198 = y.exponent.in_range in
    c.round_whole.ensures _
    (cut_quotient m n x.exponent.biased y.exponent.biased _ _ m_size (omega arith) n_size c.quotient_cut-quotient.ensures (omega arith))
