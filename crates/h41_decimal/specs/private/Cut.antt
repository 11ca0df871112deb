-- A whole number to which an exact size was cut before it is rounded.
use Rattle.std.specs.Prelude.{ℕ, ◌+◌, ◌*◌, ◌^◌, ◌<◌, ◌≤◌, Result}
use Rattle.h41_decimal.specs.NearestDecimal.{Exact, Fraction, RootOf, IsBelow, IsAtLeast, IsRounded}
use Rattle.h41_decimal.specs.declared.fault.DecimalFault.{DecimalFault}
use Rattle.h41_decimal.specs.declared.sign.Sign.{Sign}
use Rattle.h41_decimal.specs.declared.ten.Ten.{Ten}

-- The exact size is at most above/below.
abbrev pub IsAtMost : Exact → ℕ → ℕ → Type 0
IsAtMost (Fraction n d) above below = n * below ≤ above * d
IsAtMost (RootOf n) above below = n * (below * below) ≤ above * above

-- Scales count the powers of ten from 10^-128 units on.
abbrev pub origin : ℕ
origin = 10 ^ 128

-- The exact size, cut after a place, is this whole number of steps of that place.
pub record IsCut (exact : Exact) (whole scale : ℕ) : Type 0 where
  pub at_least : IsAtLeast exact (whole * 10 ^ scale) origin
  pub below : IsBelow exact ((whole + 1) * 10 ^ scale) origin

-- If a cut has fewer than eleven digits, the exact size is exactly this number of steps.
pub record IsCutFarEnough (exact : Exact) (whole scale : ℕ) : Type 0 where
  pub cut : IsCut exact whole scale
  pub whole_size : whole < 10 ^ 10 → IsAtMost exact (whole * 10 ^ scale) origin

-- The result is correct for each exact size that was cut to these eleven digits.
abbrev pub RoundsElevenDigits : Sign → ℕ → ℕ → Result Ten DecimalFault → Type 0
RoundsElevenDigits sign whole scale answer =
    (exact : Exact) → IsCut exact whole scale → IsRounded sign exact answer

-- The result is correct for each exact size that was cut to this number far enough.
abbrev pub RoundsWhole : Sign → ℕ → ℕ → Result Ten DecimalFault → Type 0
RoundsWhole sign whole scale answer =
    (exact : Exact) → IsCutFarEnough exact whole scale → IsRounded sign exact answer
