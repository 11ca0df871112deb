-- Sizes of numbers as the display rounds them. A size is counted in units of 10^-108, as in
-- h41_decimal, so that each is a whole number.
use Rattle.std.specs.Prelude.{ℕ, ◌+◌, ◌-◌, ◌*◌, ◌/◌, ◌^◌, nat_le, nat_lt, if◌then◌else◌}
use Rattle.std.specs.List.{count_by, range_with_len}
use Rattle.h41_decimal.specs.Units.{one}

-- The whole number of steps that is nearest to a size, halves up.
abbrev pub nearest : ℕ → ℕ → ℕ
nearest size step = (2 * size + step) / (2 * step)

-- The exponent of a size, plus 108: the power of ten of its first digit. It is the count of powers
-- from 10^1 on that are not above the size. Sizes are below 10^100, which is 10^208 units.
unfoldable pub exponent_of : ℕ → ℕ
exponent_of size = count_by (λ power. nat_le (10 ^ power) size) (range_with_len 1 207)

-- The value of digits of which this number are decimals; the first digit is at an exponent that is
-- given plus 99.
abbrev pub worth_at : ℕ → ℕ → ℕ → ℕ
worth_at digits exponent decimals = digits * 10 ^ (exponent + 9 - decimals)

-- A size rounded to its first digit and this number of further digits. If that would result in
-- exponent 100, the other digits are cut off instead (this project's choice).
unfoldable pub rounded_size : ℕ → ℕ → ℕ
rounded_size decimals size =
    let step = 10 ^ (exponent_of size - decimals) in
    let near = nearest size step * step in
    if nat_lt near (10 ^ 100 * one) then near else size / step * step
