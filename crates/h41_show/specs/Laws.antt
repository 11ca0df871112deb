-- Consequences of the definitions alone.
use Rattle.std.specs.Prelude.{◌≡◌, ℕ, ◌+◌, ◌*◌, ◌^◌, ◌<◌, ◌≤◌}
use Rattle.h41_show.specs.Rounding.{nearest, exponent_of}

-- A whole number of steps is nearest to a size: it is at most half a step away, and less than half
-- a step if it is below the size.
pub record IsNearest (size step count : ℕ) : Type 0 where
  pub not_above : 2 * (count * step) ≤ 2 * size + step
  pub not_below : 2 * size < 2 * (count * step) + step

-- Sizes are rounded to the nearest number of steps.
abbrev pub NearestIsNearest : Type 0
NearestIsNearest = (size step : ℕ) → 0 < step → IsNearest size step (nearest size step)

-- There is only one nearest number of steps.
abbrev pub NearestIsDetermined : Type 0
NearestIsDetermined =
    (size step count : ℕ) → 0 < step → IsNearest size step count → count ≡ nearest size step

-- The exponent of a size is the only one for which the size is between its power of ten and the
-- next.
abbrev pub ExponentIsDetermined : Type 0
ExponentIsDetermined =
    (size exponent : ℕ) → exponent ≤ 207 → 10 ^ exponent ≤ size → size < 10 ^ (exponent + 1)
    → exponent_of size ≡ exponent
