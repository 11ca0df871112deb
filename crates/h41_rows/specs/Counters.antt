-- The counters of ISG and DSE have the form iiiii.fffcc: i is counted up or down by cc, or by 1 if
-- cc is 00, and compared with fff. This is the Owner's Handbook's rule. What i and the fraction are
-- for numbers that are no usual counters is this project's choice.
use Rattle.std.specs.Prelude.{ℕ, ◌+◌, ◌*◌, ◌/◌, ◌%◌, ◌^◌, ◌==◌, if◌then◌else◌, Bool, ℤ, pos, ◌+ℤ◌}
use Rattle.std.specs.Prelude.{◌-ℤ◌, int_le, int_lt, unsigned_abs}
use Rattle.h41_decimal.specs.Signs.{with_sign, sign_of}
use Rattle.h41_decimal.specs.Units.{one}

-- The direction of counting: up for ISG, down for DSE.
pub data Way : Type 0 where
  Up : Way
  Down : Way

-- i, with the sign of the number.
abbrev pub counter_of : ℤ → ℤ
counter_of number = with_sign (sign_of number) (unsigned_abs number / one)

-- The fraction of the number's size.
abbrev pub fraction_of : ℤ → ℕ
fraction_of number = unsigned_abs number % one

-- fff, the first three decimals.
abbrev pub final_of : ℤ → ℕ
final_of number = fraction_of number / 10 ^ 105

-- cc, the next two decimals.
abbrev pub increment_of : ℤ → ℕ
increment_of number = fraction_of number / 10 ^ 103 % 100

-- The increment is cc, or 1 if cc is 00.
abbrev pub count_of : ℤ → ℕ
count_of number = if increment_of number == 0 then 1 else increment_of number

-- i, after counting.
abbrev pub counter_after : Way → ℤ → ℤ
counter_after Up number = counter_of number +ℤ pos (count_of number)
counter_after Down number = counter_of number -ℤ pos (count_of number)

-- The number after counting: its size has the same fraction, and its sign is that of the new i.
abbrev pub number_after : Way → ℤ → ℤ
number_after way number =
    with_sign (sign_of (counter_after way number))
    (unsigned_abs (counter_after way number) * one + fraction_of number)

-- Whether the loop continues: ISG continues while i is at most fff, DSE while i is above fff.
abbrev pub goes_on : Way → ℤ → Bool
goes_on Up number = int_le (counter_after Up number) (pos (final_of number))
goes_on Down number = int_lt (pos (final_of number)) (counter_after Down number)
