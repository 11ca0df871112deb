use Rattle.std.proofs.Common.{◌≡◌, ◌*◌, ◌^◌, refl, arith, Ok}
use Rattle.std.proofs.Math.Nat.{zero-mul}
use Rattle.h41_decimal.specs.Signs.{with_sign}
use Rattle.h41_decimal.specs.Units.{size}
use Rattle.h41_decimal.specs.declared.ten.Ten.TheVariants.{Zero, Nonzero}
use Rattle.h41_decimal.proofs.Signed.{nearest_of_zero, signed-zero}
use Rattle.h41_decimal.proofs.Tens.{size_pos, lower_exponent, own_nearest}
use Rattle.h41_decimal.proofs.Floors.{divided, quotient, rest_of_same, rest_rounds_at}
use Rattle.h41_decimal.proofs.modulo.rest_same.Goals as goal

pub returns-then-y-x : goal.returns-then-y-x
returns-then-y-x c =
    let x = c.args.x in
    let y = c.args.y in
    rest_of_same c.args.sign (size y) (size x) 0 (size y) _ (omega arith)
    (lower_exponent y.mantissa.digits x.mantissa.digits y.exponent.biased
    x.exponent.biased y.mantissa.below x.mantissa.at_least c.if-y-x.true)
    (own_nearest (Nonzero c.args.sign y))

pub returns-then-rest-eq0 : goal.returns-then-rest-eq0
returns-then-rest-eq0 c =
    let x = c.args.x in
    let y = c.args.y in
    let d = divided y x c.remainder-rest.result (omega arith) (cc) in
    let none : c.remainder-rest.result * 10 ^ x.exponent.biased ≡ 0 = rw c.if-rest-eq0.true (zero-mul (10 ^ x.exponent.biased)) in
    rest_of_same c.args.sign (size y) (size x) (quotient y x) 0 (Ok Zero) (omega (arith, d.0, none)) (size_pos x)
    (nearest_of_zero (with_sign c.args.sign 0) 1 (Ok Zero) (signed-zero c.args.sign 0 refl) refl)

pub returns : goal.returns
returns c =
    let x = c.args.x in
    let d = divided c.args.y x c.remainder-rest.result (omega arith) (cc) in
    let least = c.if-rest-eq0.false in
    rest_of_same c.args.sign (size c.args.y) (size x) (quotient c.args.y x) (c.remainder-rest.result * 10 ^ x.exponent.biased) _ d.0 d.2
    (rest_rounds_at c.args.sign c.remainder-rest.result x.exponent.biased _ _ (omega arith) (omega arith) c.round_whole.ensures)
