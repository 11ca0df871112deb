-- What is rounded was cut from the exact value.
use Rattle.std.proofs.Common.{◌*◌, ◌+◌, refl, arith}
use Rattle.h41_decimal.proofs.Exact.{cut_product, cut_shorter, same_cut}
use Rattle.h41_decimal.proofs.sizes.multiply.Goals as goal

pub returns : goal.returns
returns c =
    let x = c.args.x in
    let y = c.args.y in
    c.round_whole.ensures _
    (same_cut _ _ _ _ _ refl (omega arith)
    (cut_shorter _ (x.mantissa.digits * y.mantissa.digits) c.product_cut.result (x.exponent.biased + y.exponent.biased + 20) 5
    c.product_cut.ensures.product c.product_cut.ensures.long
    (cut_product x.mantissa.digits y.mantissa.digits x.exponent.biased y.exponent.biased)))
