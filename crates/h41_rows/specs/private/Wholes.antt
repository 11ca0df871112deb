-- Whole numbers of operands. All from 1000 on can be treated alike, because no register, flag,
-- label or number of digits is as large.
use Rattle.std.specs.Prelude.{ℕ, ◌^◌, nat_lt, if◌then◌else◌}

-- The number from which on all whole numbers are treated alike.
abbrev pub most_told : ℕ
most_told = 1000

-- A whole number with all from 1000 on treated as 1000.
abbrev pub told_number : ℕ → ℕ
told_number n = if nat_lt n most_told then n else most_told

-- The integer part of a loop's counter, with all from 10^10 on treated as 10^10.
abbrev pub told_ones : ℕ → ℕ
told_ones n = if nat_lt n (10 ^ 10) then n else 10 ^ 10
