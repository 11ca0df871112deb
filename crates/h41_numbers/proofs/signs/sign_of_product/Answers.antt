use Rattle.std.proofs.Common.{◌≡◌, ◌<◌, ◌*◌, ap, sym, ◌∙◌}
use Rattle.std.specs.Prelude.{◌*ℤ◌}
use Rattle.std.proofs.Math.Nat.{mul-pos}
use Rattle.h41_decimal.specs.Signs.{product_of, sign_of, with_sign}
use Rattle.h41_decimal.specs.Units.{size, units}
use Rattle.h41_decimal.proofs.Signed.{signed-mul}
use Rattle.h41_decimal.proofs.Steps.{sign_of-signed}
use Rattle.h41_decimal.proofs.Tens.{size_pos}
use Rattle.h41_numbers.proofs.signs.sign_of_product.Goals as goal

pub returns-in-Nonzero-Nonzero : goal.returns-in-Nonzero-Nonzero
returns-in-Nonzero-Nonzero c =
    let a = c.in-Nonzero-Nonzero in
    let x : units c.args.first ≡ with_sign a.first_sign (size a.field-1-0) = ap units a.is-0 in
    let y : units c.args.second ≡ with_sign a.second_sign (size a.field-1-1) = ap units a.is-1 in
    let e : units c.args.first *ℤ units c.args.second ≡ with_sign a.first_sign (size a.field-1-0) *ℤ with_sign a.second_sign
    (size a.field-1-1) =
    cc in
    let some : 0 < size a.field-1-0 * size a.field-1-1 = mul-pos (size_pos a.field-1-0) (size_pos a.field-1-1) in
    c.times.ensures
    ∙ sym
    (ap sign_of (e ∙ signed-mul a.first_sign a.second_sign (size a.field-1-0) (size a.field-1-1))
    ∙ sign_of-signed (product_of a.first_sign a.second_sign) (size a.field-1-0 * size a.field-1-1) some)
