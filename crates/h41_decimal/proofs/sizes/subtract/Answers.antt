-- What is rounded was cut from the exact difference.
use Rattle.std.proofs.Common.{◌≡◌, ℕ, ◌+◌, ◌-◌, ◌*◌, ◌/◌, ◌^◌, ◌<◌, ◌≤◌, refl, subst, arith}
use Rattle.std.proofs.Math.Nat.{div-le_self}
use Rattle.h41_decimal.specs.private.Cut.{RoundsWhole}
use Rattle.h41_decimal.specs.declared.sign.Sign.{Sign}
use Rattle.h41_decimal.proofs.Differences.{difference_above, difference_below, difference_none, difference_apart}
use Rattle.h41_decimal.proofs.Exact.{places_counted}
use Rattle.h41_decimal.proofs.Nearest.{ten_pow_pos}
use Rattle.h41_decimal.proofs.sizes.subtract.Goals as goal

few_left : (n dropped q : ℕ) → q ≡ n / 10 ^ dropped → q ≤ n
few_left n dropped q q_is = let h = div-le_self n (10 ^ dropped) in omega arith

one_less : (k n p : ℕ) → k + 1 ≡ n → 0 < p → (k * p) * 10 ^ 8 < (n * p) * 10 ^ 8
one_less k n p next some = rw (← next) (omega arith)

pub returns-then-large-small : goal.returns-then-large-small
returns-then-large-small c =
    let x = c.args.x in
    let y = c.args.y in
    difference_above c.args.sign _ x.mantissa.digits y.mantissa.digits x.exponent.biased y.exponent.biased
    (x.exponent.biased - y.exponent.biased) (x.mantissa.digits * c.power_of_ten.result) y.mantissa.digits _ (omega arith) (cc)
    refl (omega arith) c.if-large-small.true c.round_whole.ensures

pub returns-then-large-small-2 : goal.returns-then-large-small-2
returns-then-large-small-2 c =
    let x = c.args.x in
    let y = c.args.y in
    let P : Sign → Type 0 =
    λ sign. RoundsWhole sign (y.mantissa.digits - x.mantissa.digits * c.power_of_ten.result)
    (c.steps-scale.result + 128) c.round_whole-then-large-small-2.result in
    difference_below c.args.sign _ x.mantissa.digits y.mantissa.digits x.exponent.biased y.exponent.biased
    (x.exponent.biased - y.exponent.biased) (x.mantissa.digits * c.power_of_ten.result)
    y.mantissa.digits (c.steps-scale.result + 128) (omega arith) (cc)
    refl (omega arith) c.if-large-small-2.true (subst P c.opposite.ensures c.round_whole-then-large-small-2.ensures)

pub returns-else-large-small-2 : goal.returns-else-large-small-2
returns-else-large-small-2 c =
    let x = c.args.x in
    let y = c.args.y in
    difference_none c.args.sign _ x.mantissa.digits y.mantissa.digits x.exponent.biased y.exponent.biased
    (x.exponent.biased - y.exponent.biased) (x.mantissa.digits * c.power_of_ten.result) y.mantissa.digits (omega arith) (cc)
    refl (omega arith) refl

pub returns-else-apart-le-COUNTED : goal.returns-else-apart-le-COUNTED
returns-else-apart-le-COUNTED c =
    let x = c.args.x in
    let y = c.args.y in
    let m = x.mantissa.digits in
    let n = y.mantissa.digits in
    let s = x.exponent.biased in
    let t = y.exponent.biased in
    let q = c.without_last-small.result in
    let m_size : 10 ^ 9 ≤ m = x.mantissa.at_least in
    let n_size : n < 10 ^ 10 = y.mantissa.below in
    let n_least : 10 ^ 9 ≤ n = y.mantissa.at_least in
    let same : n - 1 + 1 ≡ n = omega arith in
    let few : q ≤ n - 1 = few_left (n - 1) c.min-dropped.result q c.without_last-small.ensures in
    let counted =
    places_counted (n - 1) s t c.min-dropped.result q (omega arith) (omega arith) c.without_last-small.ensures (omega arith) in
    let high : (n * 10 ^ t) * 10 ^ 8 ≤ (q + 1) * 10 ^ s = rw same at counted.1 in
    let more : ((n - 1) * 10 ^ t) * 10 ^ 8 < (n * 10 ^ t) * 10 ^ 8 = one_less (n - 1) n (10 ^ t) same (ten_pow_pos t) in
    difference_apart c.args.sign _ m n s t q _ _ (omega arith) (omega (arith, counted, more)) high
    (omega arith) (omega arith) c.round_whole-else-apart-le-COUNTED.ensures
