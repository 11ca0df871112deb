-- Answers that exclude each other, and tests of numbers.
use Rattle.std.proofs.Common.{◌≡◌, ℕ, ◌<◌, ◌≤◌, true, false, List, [], ◌∷◌, arith, Result, Ok, Err}
use Rattle.std.specs.Prelude.{nat_lt}
use Rattle.std.proofs.lemmas.Bool.Decides.{nat_tests}

pub not_both : {A E : Type 0} (r : Result A E) (a : A) (e : E) → r ≡ Ok a → r ≡ Err e → ⊥
not_both r a e ok err = cc

pub not_empty : {A : Type 0} (first : A) (rest : List A) → ◌≡◌ {A = List A} (first ∷ rest) [] → ⊥
not_empty first rest same = cc

pub below_test : (a b : ℕ) → a < b → nat_lt a b ≡ true
below_test a b below = grind (arith, nat_tests)

pub above_test : (a b : ℕ) → b ≤ a → nat_lt a b ≡ false
above_test a b above = grind (arith, nat_tests)
