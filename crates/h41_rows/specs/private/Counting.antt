-- The parts of a loop's counter.
use Rattle.std.specs.Prelude.{◌≡◌, ℕ, ◌+◌, ◌*◌, ◌/◌, ◌%◌, ◌^◌, ◌==◌, if◌then◌else◌, ℤ, ◌+ℤ◌}
use Rattle.std.specs.Prelude.{unsigned_abs, Bool, true, false}
use Rattle.h41_decimal.specs.Signs.{with_sign, sign_of}
use Rattle.h41_decimal.specs.Units.{one}
use Rattle.h41_decimal.specs.declared.sign.Sign.{Sign}
use Rattle.h41_decimal.specs.declared.sign.Sign.TheVariants.{Plus, Minus}
use Rattle.h41_rows.specs.Counters.{Way, Up, Down, count_of, counter_of, fraction_of}
use Rattle.h41_rows.specs.declared.values.ValueOfOne.{ValueOfOne}
use Rattle.h41_rows.specs.declared.values.ValueOfOne.TheVariants.{CountedDown, CountedUp}

-- Plus counts up, and minus counts down.
abbrev pub way_of : Sign → Way
way_of Plus = Up
way_of Minus = Down

-- The value of a counter that is counted in a direction.
abbrev pub value_along : Sign → ValueOfOne
value_along Plus = CountedUp
value_along Minus = CountedDown

-- The first five decimals of a number's size, as a whole number.
abbrev pub decimals_of : ℤ → ℕ
decimals_of number = fraction_of number / 10 ^ 103

-- The increment in a fraction: its fourth and fifth decimals, or 1 if they are 00.
abbrev pub count_in : ℕ → ℕ
count_in fraction = if fraction / 10 ^ 103 % 100 == 0 then 1 else fraction / 10 ^ 103 % 100

-- The number with this integer part, whose size has this fraction.
abbrev pub with_ones : ℤ → ℕ → ℤ
with_ones ones fraction = with_sign (sign_of ones) (unsigned_abs ones * one + fraction)

-- A number counted up for plus, or down for minus.
abbrev pub number_along : Sign → ℤ → ℤ
number_along direction number =
    with_ones (counter_of number +ℤ with_sign direction (count_of number)) (fraction_of number)

-- A size that is greater than another by a step, or less.
abbrev pub IsMovedSize : (grows : Bool) (x step y : ℕ) → Type 0
IsMovedSize true x step y = y ≡ x + step
IsMovedSize false x step y = y + step ≡ x
