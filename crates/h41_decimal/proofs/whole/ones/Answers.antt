use Rattle.std.proofs.Common.{◌-◌, ◌^◌, refl, arith}
use Rattle.h41_decimal.proofs.Wholes.{ones_below, ones_cut}
use Rattle.h41_decimal.proofs.whole.ones.Goals as goal

pub returns-then-steps-lt-LEAST-clause-ones : goal.returns-then-steps-lt-LEAST-clause-ones
returns-then-steps-lt-LEAST-clause-ones c =
    let x = c.args.x in
    ones_below x.mantissa.digits x.exponent.biased x.mantissa.below (omega arith)

pub returns-else-steps-lt-LEAST-clause-ones : goal.returns-else-steps-lt-LEAST-clause-ones
returns-else-steps-lt-LEAST-clause-ones c =
    let x = c.args.x in
    rw c.without_last.ensures
    (ones_cut x.mantissa.digits x.exponent.biased (108 - c.steps-steps.result) (10 ^ (108 - c.steps-steps.result)) refl (omega arith))
