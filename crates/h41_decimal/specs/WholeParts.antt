-- The integer part and the fraction of a number, by whole numbers of units alone.
use Rattle.std.specs.Prelude.{◌≡◌, ℕ, ◌+◌, ◌*◌, ◌<◌, ◌≤◌, ℤ, ◌-ℤ◌, unsigned_abs}
use Rattle.h41_decimal.specs.Signs.{with_sign, sign_of}
use Rattle.h41_decimal.specs.Units.{one}

-- The integer part of a size, as a number of ones.
pub record HasOnes (size ones : ℕ) : Type 0 where
  pub not_above : ones * one ≤ size
  pub next_above : size < (ones + 1) * one

-- The integer part of a number: the integer part of its size, with its sign.
pub record IsIntegerPart (number part : ℤ) : Type 0 where
  pub ones : ℕ
  pub whole : HasOnes (unsigned_abs number) ones
  pub value : part ≡ with_sign (sign_of number) (ones * one)

-- The fraction of a number: the number minus its integer part.
pub record IsFraction (number fraction : ℤ) : Type 0 where
  pub part : ℤ
  pub integer : IsIntegerPart number part
  pub rest : fraction ≡ number -ℤ part
