use Rattle.std.proofs.Common.{◌≡◌, ℕ, ◌+◌, ◌-◌, ◌*◌, ◌^◌, ◌<◌, ap, sym, subst, arith}
use Rattle.std.proofs.Math.Nat.{mul-pos, zero-mul}
use Rattle.h41_decimal.specs.Signs.{with_sign}
use Rattle.h41_decimal.specs.Units.{size}
use Rattle.h41_decimal.proofs.Nearest.{ten_pow_pos}
use Rattle.h41_decimal.proofs.Signed.{signed-sub}
use Rattle.h41_decimal.proofs.Tens.{size_pos, lower_exponent, nearest_along}
use Rattle.h41_decimal.proofs.Floors.{divided, quotient, rest_of_apart, rest_of_apart_none, rest_rounds_at}
use Rattle.h41_decimal.specs.NearestDecimal.{Nearest}
use Rattle.h41_decimal.proofs.modulo.rest_apart.Goals as goal

pub returns-then-y-x : goal.returns-then-y-x
returns-then-y-x c =
    let x = c.args.x in
    let y = c.args.y in
    let less =
    lower_exponent y.mantissa.digits x.mantissa.digits y.exponent.biased
    x.exponent.biased y.mantissa.below x.mantissa.at_least c.if-y-x.true in
    rest_of_apart c.args.sign (size y) (size x) 0 (size y) _ (omega arith) (size_pos y) less
    (nearest_along (with_sign c.args.sign (size x - size y)) _ 1 _
    (sym (signed-sub c.args.sign (size x) (size y) (size x - size y) (omega arith))) c.subtract.ensures)

pub returns-then-rest-eq0 : goal.returns-then-rest-eq0
returns-then-rest-eq0 c =
    let x = c.args.x in
    let y = c.args.y in
    let d = divided y x c.remainder-rest.result (omega arith) (cc) in
    let none : c.remainder-rest.result * 10 ^ x.exponent.biased ≡ 0 = rw c.if-rest-eq0.true (zero-mul (10 ^ x.exponent.biased)) in
    rest_of_apart_none c.args.sign (size y) (size x) (quotient y x) (omega (arith, d.0, none)) (size_pos y) (size_pos x)

-- The difference between the divisor and the remainder.
lacking : (m k r p : ℕ) → k + r ≡ m → k * p ≡ m * p - r * p
lacking m k r p e = let f : (k + r) * p ≡ m * p = ap (λ t. t * p) e in omega arith

pub returns : goal.returns
returns c =
    let x = c.args.x in
    let y = c.args.y in
    let m = x.mantissa.digits in
    let s = x.exponent.biased in
    let r = c.remainder-rest.result in
    let d = divided y x r (omega arith) (cc) in
    let least = c.if-rest-eq0.false in
    let some : 0 < r = omega arith in
    let l = lacking m (m - r) r (10 ^ s) (omega (arith, d.1)) in
    let P : ℕ → Type 0 = λ u. Nearest (with_sign c.args.sign u) 1 c.round_whole.result in
    rest_of_apart c.args.sign (size y) (size x) (quotient y x) (r * 10 ^ s) _ d.0 (mul-pos some (ten_pow_pos s)) d.2
    (subst P l (rest_rounds_at c.args.sign (m - r) s _ _ (omega (arith, d.1)) (omega arith) c.round_whole.ensures))
