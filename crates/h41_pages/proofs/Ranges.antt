-- Consecutive numbers that a loop uses one at a time: the rest of a list, a search or a test after each number.
use Rattle.std.proofs.Common.{◌≡◌, ℕ, ◌+◌, ◌-◌, ◌<◌, ◌≤◌, Bool, true, false, List, [], ◌∷◌, ◌++◌, Some, None, arith, ap, map, rules}
use Rattle.std.specs.List.{range_with_len, find, flat_map}
use Rattle.h41_pages.specs.FunctionTables.{all_pages}

-- The numbers from low up to, but not including, high.
unfoldable pub up_to : ℕ → ℕ → List ℕ
up_to low high = range_with_len low (high - low)

-- The numbers from 0 on are all of them.
pub up_to-zero : (high : ℕ) → range_with_len 0 high ≡ up_to 0 high
unfolding up_to
up_to-zero high = let e : high ≡ high - 0 = omega arith in ap (range_with_len 0) e

pub pages_up_to : all_pages ≡ up_to 0 16
unfolding all_pages
pages_up_to = up_to-zero 16

-- The first number, and the numbers after it.
pub up_to-step : (low high : ℕ) → low < high → up_to low high ≡ low ∷ up_to (low + 1) high
unfolding up_to
up_to-step low high below = search rules

pub up_to-none : (low high : ℕ) → high ≤ low → up_to low high ≡ []
unfolding up_to
up_to-none low high above = search rules

-- A list that is made from these numbers.
pub map-step : {X : Type 0} → (f : ℕ → X) (low high : ℕ) → low < high → map f (up_to low high) ≡ f low ∷ map f (up_to (low + 1) high)
map-step f low high below = ap (map f) (up_to-step low high below)

pub map-none : {X : Type 0} → (f : ℕ → X) (low high : ℕ) → high ≤ low → map f (up_to low high) ≡ []
map-none f low high above = ap (map f) (up_to-none low high above)

pub flat_map-step : {X : Type 0} → (f : ℕ → List X) (low high : ℕ) → low < high
    → flat_map f (up_to low high) ≡ f low ++ flat_map f (up_to (low + 1) high)
flat_map-step f low high below = ap (flat_map f) (up_to-step low high below)

pub flat_map-none : {X : Type 0} → (f : ℕ → List X) (low high : ℕ) → high ≤ low → flat_map f (up_to low high) ≡ []
flat_map-none f low high above = ap (flat_map f) (up_to-none low high above)

-- A search among these numbers.
pub find-skips : (p : ℕ → Bool) (low high : ℕ) → low < high → p low ≡ false → find p (up_to low high) ≡ find p (up_to (low + 1) high)
find-skips p low high below fails = search (rules, up_to-step)

pub find-takes : (p : ℕ → Bool) (low high : ℕ) → low < high → p low ≡ true → find p (up_to low high) ≡ Some low
find-takes p low high below passes = search (rules, up_to-step)

pub find-ends : (p : ℕ → Bool) (low high : ℕ) → high ≤ low → find p (up_to low high) ≡ None
find-ends p low high above = ap (find p) (up_to-none low high above)
