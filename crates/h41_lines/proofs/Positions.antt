-- The position of the first element of a list that passes a test.
use Rattle.std.proofs.Common.{inl, inr, not, ◌≡◌, ℕ, ◌<◌, ◌≤◌, Bool, nat_lt, List, length, Some, None, ◌∙◌, arith}
use Rattle.std.specs.List.{position, position_or_len}
use Rattle.std.proofs.lemmas.Bool.{cases_Bool, ltb-true, ltb-false, cond-true, cond-false}
use Rattle.std.proofs.lemmas.List.Sums.{prefix_len-le-length}

-- If a position was found, it is the first one.
pub position_some : (p : ℕ → Bool) (xs : List ℕ) (n : ℕ) → Some n ≡ position p xs → (n ≡ position_or_len p xs) × (n < length xs)
position_some p xs n e = elim (cases_Bool (nat_lt (position_or_len p xs) (length xs))) [
  | inl found ↦
      let at : n ≡ position_or_len p xs =
      let s : Some n ≡ Some (position_or_len p xs) = e ∙ cond-true _ _ _ found in cc in
      (at, omega (arith, ltb-true _ _ found))
  | inr past ↦ let s : Some n ≡ None = e ∙ cond-false _ _ _ past in cc
]

pub position_none : (p : ℕ → Bool) (xs : List ℕ) → None ≡ position p xs → position_or_len p xs ≡ length xs
position_none p xs e = elim (cases_Bool (nat_lt (position_or_len p xs) (length xs))) [
  | inl found ↦ let s : None ≡ Some (position_or_len p xs) = e ∙ cond-true _ _ _ found in cc
  | inr past ↦ let l : length xs ≤ position_or_len p xs = ltb-false _ _ past in omega (arith, prefix_len-le-length (λ x. not (p x)) xs)
]
