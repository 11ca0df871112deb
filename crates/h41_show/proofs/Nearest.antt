-- The nearest whole number of steps, and the exponent of a size.
use Rattle.std.specs.Prelude.{◌+◌, ◌*◌, ◌<◌, ◌≤◌}
use Rattle.std.proofs.Common.{arith}
use Rattle.std.proofs.lemmas.Nat.{le-div, div_below}
use native.Mathlib.Nat.{div-mul-le_self, lt-div-mul-add}
use Rattle.h41_show.specs.Rounding.{nearest}
use Rattle.h41_show.specs.Laws.{NearestIsNearest, NearestIsDetermined, ExponentIsDetermined}
use Rattle.h41_show.proofs.Roundings.{exponent_of-digits}

pub nearest_is_nearest : NearestIsNearest
nearest_is_nearest size step some =
    let low = div-mul-le_self (2 * size + step) (2 * step) in
    let two : 0 < 2 * step = omega arith in
    let high = lt-div-mul-add {a = 2 * size + step} two in
    record { not_above = omega arith; not_below = omega arith }

pub nearest_is_determined : NearestIsDetermined
nearest_is_determined size step count some is =
    let above = is.not_above in
    let below = is.not_below in
    let low : count ≤ nearest size step = le-div count (2 * size + step) (2 * step) (omega arith) (omega arith) in
    let high : nearest size step < count + 1 = div_below (2 * size + step) (2 * step) (count + 1) (omega arith) (omega arith) in
    omega arith

pub exponent_is_determined : ExponentIsDetermined
exponent_is_determined size exponent within low high = exponent_of-digits exponent size within low high
