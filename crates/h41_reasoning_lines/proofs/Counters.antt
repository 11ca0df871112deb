-- The counter i.nnn, which counts up to nnn.
use Rattle.std.proofs.Common.{◌≡◌, ℕ, suc, ◌+◌, ◌-◌, ◌*◌, ◌/◌, ◌%◌, ◌^◌, ◌<◌, ◌≤◌, true, false, refl, sym, ap, ◌∙◌, arith}
use Rattle.std.specs.Prelude.{ℤ, pos, ◌==◌, if◌then◌else◌, int_le, int_lt, unsigned_abs, ◌+ℤ◌, ◌-ℤ◌}
use Rattle.std.proofs.lemmas.Int.{ints}
use Rattle.h41_decimal.specs.Signs.{sign_of, with_sign}
use Rattle.h41_decimal.specs.Units.{one, units}
use Rattle.h41_decimal.specs.WholeParts.{IsFraction, IsIntegerPart}
use Rattle.h41_decimal.specs.declared.ten.Ten.{Ten}
use Rattle.h41_rows.specs.Counters.{Down, Up, count_of, counter_after, goes_on, number_after}
use Rattle.h41_reasoning_lines.proofs.Wholes.{le_fails, le_holds, lt_fails, lt_holds, ten_at, whole}
use Rattle.h41_reasoning_lines.proofs.WholeSteps.{whole_part}

-- i.nnn, in units.
abbrev pub counter : (i n : ℕ) → ℕ
counter i n = i * one + n * 10 ^ 105

module _ (i n : ℕ) (few : n < 1000) where
  -- i of the counter.
  pub whole_is : counter i n / one ≡ i
  whole_is = omega (arith, few)

  fraction_is : counter i n % one ≡ n * 10 ^ 105
  fraction_is = omega (arith, few)

  last_is : counter i n % one / 10 ^ 105 ≡ n
  last_is = ap (λ (f : ℕ). f / 10 ^ 105) fraction_is ∙ omega arith

  no_step : counter i n % one / 10 ^ 103 % 100 ≡ 0
  no_step = ap (λ (f : ℕ). f / 10 ^ 103 % 100) fraction_is ∙ omega arith

  counts_one : count_of (pos (counter i n)) ≡ 1
  counts_one = ap (λ (step : ℕ). if step == 0 then 1 else step) no_step

  after_is : counter_after Up (pos (counter i n)) ≡ pos (i + 1)
  after_is =
      ap (λ (count : ℕ). pos (counter i n / one) +ℤ pos count) counts_one
      ∙ ap (λ (whole : ℕ). pos whole +ℤ pos 1) whole_is

  -- The counter after counting.
  pub number_is : number_after Up (pos (counter i n)) ≡ pos (counter (i + 1) n)
  number_is =
      ap (λ (z : ℤ). with_sign (sign_of z) (unsigned_abs z * one + counter i n % one)) after_is
      ∙ ap (λ (f : ℕ). pos ((i + 1) * one + f)) fraction_is

  tested : goes_on Up (pos (counter i n)) ≡ int_le (pos (i + 1)) (pos n)
  tested =
      ap (λ (z : ℤ). int_le z (pos (counter i n % one / 10 ^ 105))) after_is
      ∙ ap (λ (last : ℕ). int_le (pos (i + 1)) (pos last)) last_is

  -- The loop continues while there is another register.
  pub continues : i + 1 ≤ n → goes_on Up (pos (counter i n)) ≡ true
  continues more = tested ∙ le_holds (i + 1) n more

  pub passes : n < i + 1 → goes_on Up (pos (counter i n)) ≡ false
  passes less = tested ∙ le_fails (i + 1) n less

  pub ends : i ≡ n → goes_on Up (pos (counter i n)) ≡ false
  ends same = passes (omega (arith, same))

-- The counter i.nnn, which counts down to nnn.
module _ (i n : ℕ) (few : n < 1000) where
  after_down : counter_after Down (pos (counter (suc i) n)) ≡ pos i
  after_down =
      ap (λ (count : ℕ). pos (counter (suc i) n / one) -ℤ pos count) (counts_one (suc i) n few)
      ∙ ap (λ (whole : ℕ). pos whole -ℤ pos 1) (whole_is (suc i) n few) ∙ omega (arith, ints)

  pub number_down : number_after Down (pos (counter (suc i) n)) ≡ pos (counter i n)
  number_down =
      ap (λ (z : ℤ). with_sign (sign_of z) (unsigned_abs z * one + counter (suc i) n % one)) after_down
      ∙ ap (λ (f : ℕ). pos (i * one + f)) (fraction_is (suc i) n few)

  -- The loop continues while i is above nnn.
  pub tested_down : goes_on Down (pos (counter (suc i) n)) ≡ int_lt (pos n) (pos i)
  tested_down =
      ap (λ (z : ℤ). int_lt (pos (counter (suc i) n % one / 10 ^ 105)) z) after_down
      ∙ ap (λ (last : ℕ). int_lt (pos last) (pos i)) (last_is (suc i) n few)

-- The same for a counter whose i is not 0.
module _ (i n : ℕ) (few : n < 1000) (some : 0 < i) where
  some_is : suc (i - 1) ≡ i
  some_is = omega (arith, some)

  pub down_is : number_after Down (pos (counter i n)) ≡ pos (counter (i - 1) n)
  down_is = ap (λ (k : ℕ). number_after Down (pos (counter k n))) (sym some_is) ∙ number_down (i - 1) n few

  tested_some : goes_on Down (pos (counter i n)) ≡ int_lt (pos n) (pos (i - 1))
  tested_some = ap (λ (k : ℕ). goes_on Down (pos (counter k n))) (sym some_is) ∙ tested_down (i - 1) n few

  pub continues_down : n < i - 1 → goes_on Down (pos (counter i n)) ≡ true
  continues_down more = tested_some ∙ lt_holds n (i - 1) more

  pub passes_down : i - 1 ≤ n → goes_on Down (pos (counter i n)) ≡ false
  passes_down order = tested_some ∙ lt_fails n (i - 1) order

-- The integer part of a counter.
pub count_is : (i n : ℕ) → n < 1000 → IsIntegerPart (pos (counter i n)) (whole i)
count_is i n few = record { ones = i; whole = record { not_above = omega (arith, few); next_above = omega (arith, few) }; value = refl }

-- The fraction of a counter is a counter whose i is 0, and that of a whole number is 0.
pub fraction_is_counter : (i n : ℕ) → n < 1000 → IsFraction (pos (counter i n)) (pos (counter 0 n))
fraction_is_counter i n few = record { part = whole i; integer = count_is i n few; rest = omega (arith, ints) }

pub no_fraction : (i : ℕ) → IsFraction (whole i) (whole 0)
no_fraction i = record { part = whole i; integer = whole_part i; rest = omega (arith, ints) }

-- A counter without decimals counts down to 0.
counter_whole : (i : ℕ) → counter i 0 ≡ i * one
counter_whole i = omega arith

pub number_down_whole : (i : ℕ) → number_after Down (whole (suc i)) ≡ whole i
number_down_whole i =
    ap (λ (n : ℕ). number_after Down (pos n)) (sym (counter_whole (suc i))) ∙ number_down i 0 (omega arith) ∙ ap pos (counter_whole i)

pub tested_down_whole : (i : ℕ) → goes_on Down (whole (suc i)) ≡ int_lt (pos 0) (pos i)
tested_down_whole i = ap (λ (n : ℕ). goes_on Down (pos n)) (sym (counter_whole (suc i))) ∙ tested_down i 0 (omega arith)

-- ISG of a number without decimals counts up, and the loop ends.
pub number_up_whole : (i : ℕ) → number_after Up (whole i) ≡ whole (i + 1)
number_up_whole i =
    ap (λ (n : ℕ). number_after Up (pos n)) (sym (counter_whole i)) ∙ number_is i 0 (omega arith) ∙ ap pos (counter_whole (i + 1))

pub passes_whole : (i : ℕ) → goes_on Up (whole i) ≡ false
passes_whole i = ap (λ (n : ℕ). goes_on Up (pos n)) (sym (counter_whole i)) ∙ passes i 0 (omega arith) (omega arith)

-- The decimal of the counter.
pub counter_ten : (i n : ℕ) → i < 10 ^ 7 → n < 1000 → (ten : Ten) × (units ten ≡ pos (counter i n))
counter_ten i n small few =
    let ten = ten_at (i * 1000 + n) 105 (omega (arith, small, few)) (omega arith) (omega arith) in
    (ten.0, ten.1 ∙ ap pos (omega arith))
