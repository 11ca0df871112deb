-- Sums and differences of the digit rule exist.
use Rattle.std.specs.Prelude.{ℕ, ◌<◌, ◌≤◌, Bool, List}
use Rattle.h41_digits.specs.Register.{IsRegister}
use Rattle.h41_arith.specs.DigitRule.{Sum, Difference, HasResult, base_of}
use Rattle.h41_laws_words.specs.HasOne.{HasOne}

-- A rule such as `Sum` gives exactly one register and one carry in a range of digits.
abbrev pub HasOneResult : (List ℕ → List ℕ → ℕ → ℕ → ℕ → List ℕ → ℕ → Type 0) → Type 0
HasOneResult rule =
    (into x y : List ℕ) (carry_in : Bool) (lo hi : ℕ) → IsRegister 14 into → IsRegister 14 x
    → IsRegister 14 y → lo ≤ hi → hi < 14
    → HasOne {A = List ℕ × Bool} (λ z. HasResult rule into x y carry_in lo hi z.0 z.1)

-- A sum has exactly one result, in hexadecimal and in decimal mode, for all digits from 0 to F.
abbrev pub SumHasOneResult : Type 0
SumHasOneResult = (decimal : Bool) → HasOneResult (Sum (base_of decimal))

-- A difference has exactly one result, in hexadecimal and in decimal mode, for all digits from 0 to
-- F.
abbrev pub DifferenceHasOneResult : Type 0
DifferenceHasOneResult = (decimal : Bool) → HasOneResult (Difference (base_of decimal))
