-- Digits of decimal numbers.
use Rattle.std.specs.Prelude.{ℕ, ◌≤◌, List, slice_index}

-- The digits of a register from one place to another are 0 to 9.
abbrev pub IsDecimal : List ℕ → ℕ → ℕ → Type 0
IsDecimal x lo hi = (place : ℕ) → lo ≤ place → place ≤ hi → slice_index x place ≤ 9
