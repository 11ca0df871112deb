-- A size that is changed by whole ones, if only its digits change.
use Rattle.std.proofs.Common.{◌≡◌, ℕ, ◌+◌, ◌-◌, ◌*◌, ◌<◌, Bool, true, false, ap, arith, rules}
use Rattle.std.specs.Prelude.{◌+ℤ◌}
use denote.Enum.Bare.{sameb}
use Rattle.h41_decimal.specs.contracts.sign.Sign.{the_type}
use Rattle.h41_decimal.specs.Signs.{with_sign}
use Rattle.h41_decimal.specs.Units.{one}
use Rattle.h41_decimal.specs.declared.sign.Sign.{Sign}
use Rattle.h41_decimal.proofs.Signed.{signed-add, signed-sub}
use Rattle.h41_decimal.proofs.Tens.{minus_same_sign, signs_apart, signs_same}
use Rattle.h41_rows.specs.private.Counting.{IsMovedSize}

-- Its digits, of which u units of the last make 1.
pub moved_up : (grows : Bool) (m c u p digits : ℕ) → grows ≡ true → digits ≡ m + c * u → u * p ≡ one
    → IsMovedSize grows (m * p) (c * one) (digits * p)
moved_up true m c u p digits way digits_is unit =
    let e : digits * p ≡ (m + c * u) * p = ap (λ t. t * p) digits_is in
    let f : c * (u * p) ≡ c * one = ap (λ t. c * t) unit in
    omega (arith, e, f)
moved_up false m c u p digits way digits_is unit = absurd cc

pub moved_down : (grows : Bool) (m c u p digits : ℕ) → grows ≡ false → digits ≡ m - c * u → 0 < digits → u * p ≡ one
    → IsMovedSize grows (m * p) (c * one) (digits * p)
moved_down true m c u p digits way digits_is some unit = absurd cc
moved_down false m c u p digits way digits_is some unit =
    let whole : digits + c * u ≡ m = omega arith in
    let e : (digits + c * u) * p ≡ m * p = ap (λ t. t * p) whole in
    let f : c * (u * p) ≡ c * one = ap (λ t. c * t) unit in
    omega (arith, e, f)

-- The same with a sign.
pub moved_units : (grows : Bool) (s d : Sign) (x step y : ℕ) → grows ≡ sameb the_type s d → IsMovedSize grows x step y
    → with_sign s x +ℤ with_sign d step ≡ with_sign s y
moved_units true s d x step y way is = search (rules, signs_same, signed-add)
moved_units false s d x step y way is = search (rules, signs_apart, minus_same_sign, signed-sub)
