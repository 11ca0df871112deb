use Rattle.h41_decimal.specs.Units.{units}
use Rattle.h41_decimal.proofs.Tens.{nearest_along, own_nearest, zero_plus, plus_zero}
use Rattle.h41_decimal.proofs.ten.Ten.add.Goals as goal

pub returns-in-Zero-default : goal.returns-in-Zero-default
returns-in-Zero-default c =
    rw c.in-Zero-default.is-0 (nearest_along _ _ _ _ (zero_plus (units c.args.other)) (own_nearest c.args.other))

pub returns-in_default-Zero : goal.returns-in_default-Zero
returns-in_default-Zero c =
    rw c.in_default-Zero.is-1 (nearest_along _ _ _ _ (plus_zero (units c.args.self)) (own_nearest c.args.self))
