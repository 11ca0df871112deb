use Rattle.std.proofs.Common.{arith}
use Rattle.h41_decimal.proofs.Tens.{order_less, order_greater, lower_exponent, same_exponent}
use Rattle.h41_decimal.proofs.sizes.compare.Goals as goal

pub returns-then-x-y : goal.returns-then-x-y
returns-then-x-y c = order_less _ _ (lower_exponent _ _ _ _ c.args.x.mantissa.below c.args.y.mantissa.at_least c.if-x-y.true)

pub returns-then-y-x : goal.returns-then-y-x
returns-then-y-x c = order_greater _ _ (lower_exponent _ _ _ _ c.args.y.mantissa.below c.args.x.mantissa.at_least c.if-y-x.true)

pub returns-then-x-y-2 : goal.returns-then-x-y-2
returns-then-x-y-2 c =
    order_less _ _ (same_exponent _ _ c.args.x.exponent.biased c.args.y.exponent.biased (omega arith) c.if-x-y-2.true)

pub returns-then-y-x-2 : goal.returns-then-y-x-2
returns-then-y-x-2 c =
    order_greater _ _ (same_exponent _ _ c.args.y.exponent.biased c.args.x.exponent.biased (omega arith) c.if-y-x-2.true)
