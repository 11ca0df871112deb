use Rattle.std.proofs.Common.{◌≡◌, ◌+◌, ◌∙◌, sym, arith}
use Rattle.std.specs.Prelude.{◌+ℤ◌}
use Rattle.h41_decimal.specs.Signs.{with_sign, opposite_of}
use Rattle.h41_decimal.specs.Units.{size}
use Rattle.h41_decimal.proofs.Tens.{nearest_along, signs_same, signs_apart, minus_same_sign, size_pos}
use Rattle.h41_decimal.proofs.Signed.{nearest_of, signed-add}
use Rattle.h41_decimal.proofs.ten.add_smaller.Goals as goal

pub returns-then-eq : goal.returns-then-eq
returns-then-eq c =
    let s : c.args.x_sign ≡ c.args.y_sign = signs_same c.args.x_sign c.args.y_sign (sym c.if-eq.true ∙ c.eq.ensures) in
    let e : with_sign c.args.x_sign (size c.args.x) +ℤ with_sign c.args.y_sign (size c.args.y)
    ≡ with_sign c.args.x_sign (size c.args.x) +ℤ with_sign c.args.x_sign (size c.args.y) =
    cc in
    nearest_of _ 1 c.args.x_sign (size c.args.x + size c.args.y) _ (e ∙ signed-add c.args.x_sign (size c.args.x) (size c.args.y))
    (let a = size_pos c.args.x in omega arith) c.add.ensures

pub returns-else-eq : goal.returns-else-eq
returns-else-eq c =
    let s : c.args.y_sign ≡ opposite_of c.args.x_sign = signs_apart c.args.x_sign c.args.y_sign (sym c.if-eq.false ∙ c.eq.ensures) in
    let e : with_sign c.args.x_sign (size c.args.x) +ℤ with_sign c.args.y_sign (size c.args.y)
    ≡ with_sign c.args.x_sign (size c.args.x) +ℤ with_sign (opposite_of c.args.x_sign) (size c.args.y) =
    cc in
    nearest_along _ _ _ _ (e ∙ minus_same_sign c.args.x_sign (size c.args.x) (size c.args.y)) c.subtract.ensures
