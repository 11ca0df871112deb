-- A number that is typed.
use Rattle.std.proofs.Common.{◌≡◌, ℕ, ◌+◌, ◌*◌, ◌^◌, ◌<◌, sym, ◌∙◌, ap, refl, subst, arith, Result, Ok}
use Rattle.std.proofs.Math.Nat.{mul-pos}
use Rattle.std.proofs.lemmas.Nat.{pow-add}
use Rattle.h41_decimal.specs.Signs.{with_sign}
use Rattle.h41_decimal.specs.Units.{one}
use Rattle.h41_decimal.specs.NearestDecimal.{Fraction, Nearest}
use Rattle.h41_decimal.specs.NumberEntry.{IsTyped, within_bounds}
use Rattle.h41_decimal.specs.private.Cut.{IsCutFarEnough, RoundsWhole}
use Rattle.h41_decimal.specs.Laws.{TypedIsDetermined}
use Rattle.h41_decimal.specs.declared.fault.DecimalFault.{DecimalFault}
use Rattle.h41_decimal.specs.declared.parts.Exponent.{Exponent}
use Rattle.h41_decimal.specs.declared.sign.Sign.{Sign}
use Rattle.h41_decimal.specs.declared.ten.Ten.{Ten}
use Rattle.h41_decimal.specs.declared.ten.Ten.TheVariants.{Zero}
use Rattle.h41_decimal.proofs.Nearest.{ten_pow_pos}
use Rattle.h41_decimal.proofs.Cuts.{power_parts}
use Rattle.h41_decimal.proofs.Exact.{exact_fraction}
use Rattle.h41_decimal.proofs.Signed.{nearest_of, nearest_of_zero, signed-zero}
use Rattle.h41_decimal.proofs.Determined.{nearest_determined}
use Rattle.h41_decimal.proofs.Same.{units_injective}

typed_steps : (digits ps pp pb : ℕ) → ps * pp ≡ 10 ^ 137 * pb → (digits * 10 ^ 108 * pb) * 10 ^ 128 ≡ (digits * ps) * (pp * 10 ^ 99)
typed_steps digits ps pp pb e =
    let a : digits * (ps * pp) ≡ digits * (10 ^ 137 * pb) = ap (λ t. digits * t) e in
    omega arith

-- The digits are a cut of the exact value.
pub typed_cut : (digits biased places scale : ℕ) → scale + places ≡ 137 + biased
    → IsCutFarEnough (Fraction (digits * 10 ^ 108 * 10 ^ biased) (10 ^ places * 10 ^ 99)) digits scale
typed_cut digits biased places scale e =
    let parts : 10 ^ scale * 10 ^ places ≡ 10 ^ 137 * 10 ^ biased = power_parts scale places (137 + biased) e ∙ pow-add 10 137 biased in
    exact_fraction (digits * 10 ^ 108 * 10 ^ biased) (10 ^ places * 10 ^ 99) digits scale (mul-pos (ten_pow_pos places) (ten_pow_pos 99))
    (typed_steps digits (10 ^ scale) (10 ^ places) (10 ^ biased) parts)

pub typed_nearest : (sign : Sign) (digits biased places whole scale : ℕ) (answer : Result Ten DecimalFault) → 0 < digits
    → scale + places ≡ 137 + biased → whole ≡ digits → RoundsWhole sign whole scale answer
    → Nearest (with_sign sign (digits * 10 ^ 108 * 10 ^ biased)) (10 ^ places * 10 ^ 99) answer
typed_nearest sign digits biased places whole scale answer some e same rounds =
    let rounds_digits = subst (λ n. RoundsWhole sign n scale answer) same rounds in
    nearest_of _ (10 ^ places * 10 ^ 99) sign (digits * 10 ^ 108 * 10 ^ biased)
    answer refl (mul-pos (mul-pos some (ten_pow_pos 108)) (ten_pow_pos biased))
    (rounds_digits (Fraction (digits * 10 ^ 108 * 10 ^ biased) (10 ^ places * 10 ^ 99)) (typed_cut digits biased places scale e))

-- Digits that are all zero.
pub typed_zero : (sign : Sign) (digits places : ℕ) (exponent : Exponent) → digits ≡ 0 → IsTyped sign digits places exponent Zero
typed_zero sign digits places exponent none = record {
  answer = Ok Zero;
  nearest =
      nearest_of_zero _ (10 ^ places * 10 ^ 99) (Ok Zero)
      (signed-zero sign _ (ap (λ d. d * 10 ^ 108 * 10 ^ exponent.biased) none ∙ omega arith)) refl;
  value = refl;
}

pub typed_determined : TypedIsDetermined
typed_determined sign digits places exponent x y p q =
    units_injective x y
    (p.value
    ∙ ap (within_bounds sign) (nearest_determined (with_sign sign (digits * one * 10 ^ exponent.biased))
    (10 ^ places * 10 ^ 99) p.answer q.answer p.nearest q.nearest)
    ∙ sym q.value)
