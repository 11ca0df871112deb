use Rattle.h41_decimal.proofs.Tens.{quotient_of_zero, quotient_nearest, rounded_along}
use Rattle.h41_decimal.proofs.ten.Ten.div.Goals as goal

pub returns-in-Zero-default : goal.returns-in-Zero-default
returns-in-Zero-default c =
    let a = c.in-Zero-default in
    rw (a.is-0, a.is-1) (quotient_of_zero a.field-0-1 a.field-1-1)

pub returns-in-Nonzero-Nonzero : goal.returns-in-Nonzero-Nonzero
returns-in-Nonzero-Nonzero c =
    let a = c.in-Nonzero-Nonzero in
    rw (a.is-0, a.is-1) (quotient_nearest a.x_sign a.y_sign a.x a.y _ (rounded_along _ _ _ _ c.times.ensures c.divide.ensures))
