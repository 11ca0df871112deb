-- Questions about decimals have answers.
use Rattle.std.proofs.Common.{◌≡◌, ℕ, zero, suc, ◌+◌, ◌-◌, ◌*◌, ◌/◌, ◌%◌, ◌^◌, ◌<◌, ◌≤◌, sym, refl, arith, Result, Ok, Err}
use Rattle.std.specs.Prelude.{ℤ, pos, negsuc, ◌*ℤ◌, unsigned_abs}
use Rattle.std.proofs.Math.Nat.{mul-pos, div-mul-le_self, lt-div-mul-add}
use Rattle.std.proofs.lemmas.Nat.{div-add-mod', mod_below}
use Rattle.h41_decimal.specs.Signs.{with_sign, sign_of, opposite_of}
use Rattle.h41_decimal.specs.Units.{one, size, units}
use Rattle.h41_decimal.specs.NearestDecimal.{Nearest, NearestRoot}
use Rattle.h41_decimal.specs.NumberEntry.{IsTyped, within_bounds, size_of_greatest}
use Rattle.h41_decimal.specs.Operations.{NearestModulo, NearestQuotient, RoundsRest, RoundsTo}
use Rattle.h41_decimal.specs.WholeParts.{IsIntegerPart, IsFraction}
use Rattle.h41_decimal.specs.declared.fault.DecimalFault.{DecimalFault}
use Rattle.h41_decimal.specs.declared.fault.DecimalFault.TheVariants.{Data}
use Rattle.h41_decimal.specs.declared.parts.Exponent.{Exponent}
use Rattle.h41_decimal.specs.declared.parts.Magnitude.{Magnitude}
use Rattle.h41_decimal.specs.declared.sign.Sign.{Sign}
use Rattle.h41_decimal.specs.declared.sign.Sign.TheVariants.{Plus, Minus}
use Rattle.h41_decimal.specs.declared.ten.Ten.{Ten}
use Rattle.h41_decimal.specs.declared.ten.Ten.TheVariants.{Zero, Nonzero}
use Rattle.h41_decimal.proofs.Nearest.{ten_pow_pos}
use Rattle.h41_decimal.proofs.Signed.{not_zero, nearest_of}
use Rattle.h41_decimal.proofs.Tens.{size_pos}
use Rattle.h41_decimal.proofs.Floors.{rest_of_same, rest_of_apart, rest_of_apart_none, rest_of_zero, modulo_by}
use Rattle.h41_laws_words.specs.HasOne.{HasOne}
use Rattle.h41_laws_words.proofs.Rounding.{fraction_rounded, root_rounded, ten_of, units-ten_of}

-- There is an answer.
pub record Has {A : Type 0} (IsRight : A → Type 0) : Type 0 where
  pub answer : A
  pub right : IsRight answer

-- An answer that all right answers are equal to is the only one.
pub has_one : {A : Type 0} {IsRight : A → Type 0} → Has IsRight → ((x y : A) → IsRight x → IsRight y → x ≡ y) → HasOne IsRight
has_one found same = record { answer = found.answer; right = found.right; only = λ other right. same other found.answer right found.right }

pub nearest : (above : ℤ) (below : ℕ) → 0 < below → Has (Nearest above below)
nearest (pos zero) below some = record { answer = Ok Zero; right = refl }
nearest (pos (suc n)) below some =
    let rounded = fraction_rounded Plus (suc n) below (omega arith) some in
    record {
      answer = rounded.answer;
      right = nearest_of (pos (suc n)) below Plus (suc n) rounded.answer refl (omega arith) rounded.rounded;
    }
nearest (negsuc n) below some =
    let rounded = fraction_rounded Minus (suc n) below (omega arith) some in
    record { answer = rounded.answer; right = nearest_of (negsuc n) below Minus (suc n) rounded.answer refl (omega arith) rounded.rounded }

pub nearest_root : (number : ℤ) → Has (NearestRoot number)
nearest_root (pos zero) = record { answer = Ok Zero; right = refl }
nearest_root (pos (suc n)) =
    let some : 0 < suc n = omega arith in
    let rounded = root_rounded Plus (suc n * one) (mul-pos some (ten_pow_pos 108)) in
    record { answer = rounded.answer; right = not_zero _ _ (suc n) some rounded.rounded }
nearest_root (negsuc n) = record { answer = Err Data; right = refl }

quotient_some : (x y : ℤ) → 0 < unsigned_abs y → Has (NearestQuotient x y)
quotient_some x y some =
    let found = nearest (x *ℤ y *ℤ pos one) (unsigned_abs y * unsigned_abs y) (mul-pos some some) in
    record { answer = found.answer; right = not_zero _ _ (unsigned_abs y) some found.right }

pub quotient : (x y : ℤ) → Has (NearestQuotient x y)
quotient x (pos zero) = record { answer = Err Data; right = refl }
quotient x (pos (suc n)) = quotient_some x (pos (suc n)) (omega arith)
quotient x (negsuc n) = quotient_some x (negsuc n) (omega arith)

-- The remainder for a divisor with a sign.
rest_same : (s : Sign) (Y X : ℕ) → 0 < X → Has (RoundsRest (with_sign s Y) (with_sign s X))
rest_same s Y X some =
    let found = nearest (with_sign s (Y % X)) 1 (omega arith) in
    record {
      answer = found.answer;
      right = rest_of_same s Y X (Y / X) (Y % X) found.answer (sym (div-add-mod' Y X)) (mod_below Y X some) found.right;
    }

rest_apart : (s : Sign) (Y X r : ℕ) → r ≡ Y % X → 0 < X → 0 < Y → Has (RoundsRest (with_sign (opposite_of s) Y) (with_sign s X))
rest_apart s Y X zero is some Y_pos =
    let parts : Y / X * X + Y % X ≡ Y = div-add-mod' Y X in
    record { answer = Ok Zero; right = rest_of_apart_none s Y X (Y / X) (omega arith) Y_pos some }
rest_apart s Y X (suc r) is some Y_pos =
    let parts : Y / X * X + Y % X ≡ Y = div-add-mod' Y X in
    let small : Y % X < X = mod_below Y X some in
    let found = nearest (with_sign s (X - suc r)) 1 (omega arith) in
    record {
      answer = found.answer;
      right = rest_of_apart s Y X (Y / X) (suc r) found.answer (omega arith) (omega arith) (omega arith) found.right;
    }

modulo_rest : (s t : Sign) (y x : Magnitude) → Has (RoundsRest (with_sign s (size y)) (with_sign t (size x)))
modulo_rest Plus Plus y x = rest_same Plus (size y) (size x) (size_pos x)
modulo_rest Minus Minus y x = rest_same Minus (size y) (size x) (size_pos x)
modulo_rest Minus Plus y x = rest_apart Plus (size y) (size x) (size y % size x) refl (size_pos x) (size_pos y)
modulo_rest Plus Minus y x = rest_apart Minus (size y) (size x) (size y % size x) refl (size_pos x) (size_pos y)

pub modulo : (y x : Ten) → Has (NearestModulo y x)
modulo y Zero = record { answer = Ok y; right = refl }
modulo Zero (Nonzero t x) = record {
  answer = Ok Zero;
  right = modulo_by Zero t x (pos 0) (Ok Zero) refl (rest_of_zero t (size x) (size_pos x));
}
modulo (Nonzero s y) (Nonzero t x) =
    let rest = modulo_rest s t y x in
    record { answer = rest.answer; right = modulo_by (Nonzero s y) t x (with_sign s (size y)) rest.answer refl rest.right }

-- A number rounded to steps.
half_up : (step number k : ℕ) → k * (2 * step) ≤ 2 * number + step → 2 * number + step < k * (2 * step) + 2 * step
    → (2 * (k * step) ≤ 2 * number + step) × (2 * number + step < 2 * ((k + 1) * step))
half_up step number k low high = (omega arith, omega arith)

pub of_steps : (step : ℕ) (number : ℤ) → 0 < step → Has (RoundsTo step number)
of_steps step number some =
    let n = unsigned_abs number in
    let twice : 0 < 2 * step = omega arith in
    let k = (2 * n + step) / (2 * step) in
    let bounds = half_up step n k (div-mul-le_self (2 * n + step) (2 * step)) (lt-div-mul-add twice) in
    let found = nearest (with_sign (sign_of number) (k * step)) 1 (omega arith) in
    record { answer = found.answer; right = record { steps = k; not_above = bounds.0; next_above = bounds.1; value = found.right } }

-- The parts of a number.
next_one : (n k : ℕ) → n < k * one + one → n < (k + 1) * one
next_one n k less = omega arith

pub integer_part : (number : ℤ) → Has (IsIntegerPart number)
integer_part number =
    let n = unsigned_abs number in
    let some : 0 < one = ten_pow_pos 108 in
    record {
      answer = with_sign (sign_of number) (n / one * one);
      right = record {
        ones = n / one;
        whole = record { not_above = div-mul-le_self n one; next_above = next_one n (n / one) (lt-div-mul-add some) };
        value = refl;
      };
    }

pub fraction : (number : ℤ) → Has (IsFraction number)
fraction number =
    let part = integer_part number in
    record { answer = _; right = record { part = part.answer; integer = part.right; rest = refl } }

-- A number from its digits.
greatest : (sign : Sign) → Ten
greatest sign = ten_of sign 9999999999 198 record { at_least = omega arith; below = omega arith } (omega arith)

units-greatest : (sign : Sign) → units (greatest sign) ≡ with_sign sign size_of_greatest
unfolding greatest
units-greatest sign = units-ten_of sign 9999999999 198 record { at_least = omega arith; below = omega arith } (omega arith)

bounded_number : (sign : Sign) (answer : Result Ten DecimalFault) → Has (λ (number : Ten). units number ≡ within_bounds sign answer)
bounded_number sign (Ok number) = record { answer = number; right = refl }
bounded_number sign (Err fault) = record { answer = greatest sign; right = units-greatest sign }

pub typed : (sign : Sign) (digits places : ℕ) (exponent : Exponent) → Has (IsTyped sign digits places exponent)
typed sign digits places exponent =
    let found = nearest (with_sign sign (digits * one * 10 ^ exponent.biased)) (10 ^ places * 10 ^ 99)
    (mul-pos (ten_pow_pos places) (ten_pow_pos 99)) in
    let number = bounded_number sign found.answer in
    record { answer = number.answer; right = record { answer = found.answer; nearest = found.right; value = number.right } }
