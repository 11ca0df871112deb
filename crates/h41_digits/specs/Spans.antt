-- The numbers that consecutive places form. The definition of a register does not need this: the
-- code computes sums of such places.
use Rattle.std.specs.Prelude.{◌≡◌, ℕ, ◌+◌, ◌-◌, ◌/◌, ◌%◌, ◌^◌, ◌<◌, ◌≤◌}

-- The number that the digits of a number from place lo to place hi form. The digit at lo is the
-- least significant one.
abbrev pub in_places : ℕ → ℕ → ℕ → ℕ
in_places number lo hi = number / 16 ^ lo % 16 ^ (hi + 1 - lo)

-- The number has F at each place of a register from lo to hi, and zeros elsewhere.
pub record IsFilled (number lo hi : ℕ) : Type 0 where
  pub ordered : lo ≤ hi
  pub in_register : hi < 14
  pub weights : number + 16 ^ lo ≡ 16 ^ (hi + 1)

-- If the number is the mask of any span, then of the span from the first of these places to the
-- last.
abbrev pub AreItsPlaces : ℕ → ℕ → ℕ → Type 0
AreItsPlaces number first last
    = (lo hi : ℕ) → IsFilled number lo hi → (first ≡ lo) × (last ≡ hi)

-- The number is the mask of no span.
abbrev pub IsNotFilled : ℕ → Type 0
IsNotFilled number = (lo hi : ℕ) → IsFilled number lo hi → ⊥
