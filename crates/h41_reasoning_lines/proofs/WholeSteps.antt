-- Lines that compute with whole numbers of up to ten digits: the results are exact, and tests compare the whole numbers.
use Rattle.std.proofs.Common.{◌≡◌, ℕ, ◌+◌, ◌-◌, ◌*◌, ◌/◌, ◌%◌, ◌^◌, ◌<◌, ◌≤◌, true, false, List, Ok, inl, mod-lt, refl, sym, ap, ◌∙◌, subst}
use Rattle.std.proofs.Common.{arith}
use Rattle.std.specs.Prelude.{ℤ, pos, ◌+ℤ◌, ◌-ℤ◌, int_le, int_lt, bytes_eq}
use Rattle.std.proofs.lemmas.Int.{ints}
use Rattle.std.proofs.lemmas.Nat.{div-add-mod'}
use Rattle.h41_decimal.specs.Laws.{DecimalIsItsNearest, RegisterIsDetermined}
use Rattle.h41_decimal.specs.NearestDecimal.{Nearest}
use Rattle.h41_decimal.specs.Units.{one, units}
use Rattle.h41_decimal.specs.WholeParts.{IsIntegerPart}
use Rattle.h41_decimal.specs.declared.ten.Ten.{Ten}
use Rattle.h41_ram.specs.RegisterMap.{zeros}
use Rattle.h41_rows.specs.Values.{IsRegisterOf}
use Rattle.h41_reasoning_lines.proofs.Scales.{scaled}
use Rattle.h41_reasoning_lines.proofs.Wholes.{IsRemainder, is_zeros, le_fails, le_holds, lt_fails, lt_holds, not_zeros, whole}

module _ (itself : DecimalIsItsNearest) where
  -- A number line of digits, after which the exponent is zero.
  pub typed_whole : (k : ℕ) (ten : Ten) → 0 < k → units ten ≡ whole k → Nearest (pos (k * one * 10 ^ 99)) (10 ^ 99) (Ok ten)
  typed_whole k ten some is =
      scaled (k * one) (10 ^ 99) ten (omega (arith, some)) (omega arith)
      (subst (λ (z : ℤ). Nearest z 1 (Ok ten)) is (itself ten))

  -- The number line 0.
  pub typed_zero : (ten : Ten) → units ten ≡ whole 0 → Nearest (pos (0 * one * 10 ^ 99)) (10 ^ 99) (Ok ten)
  typed_zero ten is = subst (λ (z : ℤ). Nearest z 1 (Ok ten)) is (itself ten)

  -- A number line with decimals, whose number is n units.
  pub typed_decimals : (digits places n : ℕ) (ten : Ten) → 0 < n * (10 ^ places * 10 ^ 99) → 0 < 10 ^ places * 10 ^ 99
      → n * (10 ^ places * 10 ^ 99) ≡ digits * one * 10 ^ 99 → units ten ≡ pos n
      → Nearest (pos (digits * one * 10 ^ 99)) (10 ^ places * 10 ^ 99) (Ok ten)
  typed_decimals digits places n ten some factor same is =
      subst (λ (m : ℕ). Nearest (pos m) (10 ^ places * 10 ^ 99) (Ok ten)) same
      (scaled n (10 ^ places * 10 ^ 99) ten some factor (subst (λ (z : ℤ). Nearest z 1 (Ok ten)) is (itself ten)))

  -- Sums and differences.
  pub sum_whole : (a b : ℕ) (ten : Ten) → units ten ≡ whole (a + b) → Nearest (whole a +ℤ whole b) 1 (Ok ten)
  sum_whole a b ten is =
      let same : (a + b) * one ≡ a * one + b * one = omega arith in
      subst (λ (z : ℤ). Nearest z 1 (Ok ten)) (is ∙ ap pos same) (itself ten)

  pub difference_whole : (a b : ℕ) (ten : Ten) → b ≤ a → units ten ≡ whole (a - b) → Nearest (whole a -ℤ whole b) 1 (Ok ten)
  difference_whole a b ten order is =
      let same : (a - b) * one + b * one ≡ a * one = omega (arith, order) in
      let exact : whole (a - b) ≡ whole a -ℤ whole b = omega (arith, ints, same) in
      subst (λ (z : ℤ). Nearest z 1 (Ok ten)) (is ∙ exact) (itself ten)

-- Comparisons.
pub lt_true : (a b : ℕ) → a < b → int_lt (whole a) (whole b) ≡ true
lt_true a b less = lt_holds (a * one) (b * one) (omega (arith, less))

pub lt_false : (a b : ℕ) → b ≤ a → int_lt (whole a) (whole b) ≡ false
lt_false a b order = lt_fails (a * one) (b * one) (omega (arith, order))

pub le_true : (a b : ℕ) → a ≤ b → int_le (whole a) (whole b) ≡ true
le_true a b order = le_holds (a * one) (b * one) (omega (arith, order))

pub le_false : (a b : ℕ) → b < a → int_le (whole a) (whole b) ≡ false
le_false a b less = le_fails (a * one) (b * one) (omega (arith, less))

-- Whether a register contains zero.
pub is_zero : RegisterIsDetermined → (register : List ℕ) (n : ℕ) → n ≤ 0 → IsRegisterOf (whole n) register
    → bytes_eq register zeros ≡ true
is_zero determined register n none is =
    let nought : n ≡ 0 = omega (arith, none) in
    is_zeros determined register (subst (λ (m : ℕ). IsRegisterOf (whole m) register) nought is)

pub is_some : (register : List ℕ) (n : ℕ) → 0 < n → IsRegisterOf (whole n) register → bytes_eq register zeros ≡ false
is_some register n some is = not_zeros n register some is.holds

-- The integer part of a whole number is the number itself.
pub whole_part : (n : ℕ) → IsIntegerPart (whole n) (whole n)
whole_part n = record { ones = n; whole = record { not_above = omega arith; next_above = omega arith }; value = refl }

-- A whole number divided by another one, which is not zero.
pub whole_remainder : (a b : ℕ) → 0 < b → IsRemainder a b (a / b) (a % b)
whole_remainder a b some = record { parts = sym (div-add-mod' a b); least = inl (mod-lt a some) }
