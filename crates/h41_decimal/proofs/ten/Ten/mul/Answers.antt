use Rattle.h41_decimal.proofs.Tens.{product_nearest, rounded_along}
use Rattle.h41_decimal.proofs.ten.Ten.mul.Goals as goal

pub returns-in-Nonzero-Nonzero : goal.returns-in-Nonzero-Nonzero
returns-in-Nonzero-Nonzero c =
    let a = c.in-Nonzero-Nonzero in
    rw (a.is-0, a.is-1) (product_nearest a.x_sign a.y_sign a.x a.y _ _ (rounded_along _ _ _ _ c.times.ensures c.multiply.ensures))
