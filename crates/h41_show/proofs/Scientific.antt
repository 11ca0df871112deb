-- Sizes as SCI and ENG show them, zero, and numbers.
use Rattle.std.specs.Prelude.{◌≡◌, ℕ, ◌+◌, ◌-◌, ◌*◌, ◌^◌, ◌<◌, ◌≤◌, ◌⊎◌, min, ◌++◌, if◌then◌else◌, true, refl, pos}
use Rattle.std.proofs.Common.{ap, arith, subst, rules}
use Rattle.std.proofs.lemmas.Nat.{div_below}
use Rattle.std.proofs.lemmas.Bool.Decides.{nat_tests}
use Rattle.h41_decimal.specs.Signs.{with_sign}
use Rattle.h41_decimal.specs.declared.sign.Sign.{Sign}
use Rattle.h41_show.specs.Rounding.{nearest, exponent_of, rounded_size}
use Rattle.h41_show.specs.NumberText.{fixed_decimals, fixed_count, is_fixed, fixed_text, steps_text, mantissa_decimals, mantissa_text}
use Rattle.h41_show.specs.NumberText.{exponent_text, extra_digits, exponential_text, scientific_text, notation_text, sign_text, number_text}
use Rattle.h41_show.specs.declared.format.Format.{Format}
use Rattle.h41_show.specs.declared.format.Notation.{Notation}
use Rattle.h41_show.specs.declared.format.Notation.TheVariants.{Fixed, Scientific, Engineering}
use Rattle.h41_show.specs.declared.format.RadixMark.{RadixMark}
use Rattle.h41_show.proofs.DecimalTexts.{length-decimal_digit}
use Rattle.h41_show.proofs.Powers.{power_pos, scaled_low, scaled_high, shifted}
use Rattle.h41_show.proofs.Roundings.{exponent_of-digits}

-- Digits at a power of ten, as many as SCI and ENG show.
module _ (c t m : ℕ) (few : m ≤ 7) (small : t ≤ 198) (low : 10 ^ m ≤ c) (high : c < 10 ^ (m + 1)) where
  exponent_of-shown : exponent_of (c * 10 ^ (t + 9 - m)) ≡ t + 9
  exponent_of-shown =
      let up : m + (t + 9 - m) ≡ t + 9 = omega arith in
      let next : m + 1 + (t + 9 - m) ≡ t + 9 + 1 = omega arith in
      exponent_of-digits (t + 9) (c * 10 ^ (t + 9 - m)) (omega arith)
      (subst (λ k. 10 ^ k ≤ c * 10 ^ (t + 9 - m)) up (scaled_low c (t + 9 - m) m low))
      (subst (λ k. c * 10 ^ (t + 9 - m) < 10 ^ k) next (scaled_high c (t + 9 - m) (m + 1) high))

  exponential_text-shown : (radix : RadixMark) (extra : ℕ) → extra ≤ 2 → extra ≤ t
      → exponential_text radix m extra (c * 10 ^ (t + 9 - m))
      ≡ mantissa_text radix (m - extra) (c * 10 ^ (extra - m)) ++ exponent_text (t - extra + 9)
  exponential_text-shown radix extra most within = search (rules, exponent_of-shown, shifted)

  pub scientific_text-shown : (format : Format) (size extra : ℕ) → 0 < size → m ≡ mantissa_decimals format.digits
      → c * 10 ^ (t + 9 - m) ≡ rounded_size m size → extra ≡ extra_digits format.notation (t + 9) → extra ≤ 2 → extra ≤ t
      → mantissa_text format.radix (m - extra) (c * 10 ^ (extra - m)) ++ exponent_text (t - extra + 9) ≡ scientific_text format size
  unfolding scientific_text
  scientific_text-shown format size extra some decimals value digits most within =
      search (rules, nat_tests, exponent_of-shown, exponential_text-shown)

-- FIX, if it shows the size in its own form.
pub notation_text-fixed : (format : Format) (size : ℕ) → is_fixed format.digits size ≡ true
    → notation_text Fixed format size ≡ steps_text format (fixed_decimals format.digits size) (fixed_count format.digits size)
unfolding fixed_text
notation_text-fixed format size fixed = ap (λ b. if b then fixed_text format size else scientific_text format size) fixed

-- The text of zero.
fixed_count-zero : (digits : ℕ) → fixed_count digits 0 ≡ 0
fixed_count-zero digits =
    let k = 108 - fixed_decimals digits 0 in
    let some = power_pos k in
    let below : nearest 0 (10 ^ k) < 1 = div_below (2 * 0 + 10 ^ k) (2 * 10 ^ k) 1 (omega arith) (omega arith) in
    omega arith

is_fixed-zero : (digits : ℕ) → is_fixed digits 0 ≡ true
unfolding is_fixed
is_fixed-zero digits = refl

fixed_decimals-zero : (digits : ℕ) → fixed_decimals digits 0 ≡ min digits 9
fixed_decimals-zero digits = ap (λ k. min digits (10 - k)) (length-decimal_digit 0 (omega arith))

pub zero_fixed : (format : Format) (decimals : ℕ) → decimals ≡ min format.digits 9
    → steps_text format decimals 0 ≡ notation_text Fixed format 0
zero_fixed format decimals are = search (rules, notation_text-fixed, is_fixed-zero, fixed_decimals-zero, fixed_count-zero)

zero_scientific : (format : Format)
    → mantissa_text format.radix (mantissa_decimals format.digits) 0 ++ exponent_text 108 ≡ scientific_text format 0
unfolding scientific_text
zero_scientific format = refl

pub zero_in_powers : (format : Format) (notation : Notation) → (notation ≡ Scientific) ⊎ (notation ≡ Engineering)
    → mantissa_text format.radix (mantissa_decimals format.digits) 0 ++ exponent_text 108 ≡ notation_text notation format 0
zero_in_powers format notation is = search (rules, zero_scientific)

-- The text of a number is that of its sign and its size.
pub number_text-signed : (format : Format) (sign : Sign) (size : ℕ) → 0 < size
    → sign_text sign ++ notation_text format.notation format size ≡ number_text format (with_sign sign size)
unfolding number_text
number_text-signed format sign size some = grind arith

pub number_text-zero : (format : Format) → notation_text format.notation format 0 ≡ number_text format (pos 0)
unfolding number_text
number_text-zero format = refl
