-- Consequences of the digit rule alone.
use Rattle.std.specs.Prelude.{◌≡◌, ◌≢◌, ℕ, ◌+◌, ◌-◌, ◌*◌, ◌^◌, ◌<◌, ◌≤◌, ◌⊎◌, ◌↔◌, Bool, true}
use Rattle.std.specs.Prelude.{false, IsTrue, List, length, slice_index, sum_by}
use Rattle.h41_digits.specs.Register.{IsRegister}
use Rattle.h41_fields.specs.Field.{from_to}
use Rattle.h41_arith.specs.DigitRule.{Sum, Difference, HasResult, SumInto, DifferenceInto}
use Rattle.h41_arith.specs.DigitRule.{KeepsOutside, carry_digit, with_places, zeros, is_less}
use Rattle.h41_arith.specs.DigitRule.{is_different}

-- A rule has one result: two registers and carries that it allows are the same.
abbrev pub IsDetermined : (List ℕ → List ℕ → ℕ → ℕ → ℕ → List ℕ → ℕ → Type 0) → Type 0
IsDetermined rule = (into x y z w : List ℕ) (carry_in carry other : Bool) (lo hi : ℕ) → lo ≤ hi
    → HasResult rule into x y carry_in lo hi z carry
    → HasResult rule into x y carry_in lo hi w other → (z ≡ w) × (carry ≡ other)

-- The register and the carry of a sum are determined.
abbrev pub SumIsDetermined : Type 0
SumIsDetermined = (base : ℕ) → IsDetermined (Sum base)

-- The register and the borrow of a difference are determined.
abbrev pub DifferenceIsDetermined : Type 0
DifferenceIsDetermined = (base : ℕ) → IsDetermined (Difference base)

-- In any base, the borrow of x - y is set exactly if x is less than y.
abbrev pub BorrowTellsLess : Type 0
BorrowTellsLess =
    (base lo hi : ℕ) (into x y z : List ℕ) (borrow : Bool) → lo ≤ hi → hi < 14 → IsRegister 14 x
    → IsRegister 14 y
    → DifferenceInto base into x y false lo hi z borrow → borrow ≡ is_less x y lo hi

-- The difference 0 - x - 1 always borrows.
abbrev pub ComplementBorrows : Type 0
ComplementBorrows =
    (base lo hi : ℕ) (into x z : List ℕ) (borrow : Bool) → lo ≤ hi
    → DifferenceInto base into zeros x true lo hi z borrow
    → borrow ≡ true

-- The list z has the given digits at the places from lo to hi, and elsewhere those of `into`.
pub record HasDigits (into : List ℕ) (lo hi : ℕ) (digit : ℕ → ℕ) (z : List ℕ) : Type 0 where
  pub size : length z ≡ 14
  pub inside : (place : ℕ) → lo ≤ place → place ≤ hi → slice_index z place ≡ digit place
  pub outside : KeepsOutside into lo hi z

-- The register of a copy or a shift has the digits of its definition, and no other register has
-- them.
abbrev pub ReplacedIsDetermined : Type 0
ReplacedIsDetermined = (into z : List ℕ) (lo hi : ℕ) (digit : ℕ → ℕ) → length into ≡ 14 → hi < 14
    → HasDigits into lo hi digit z ↔ (z ≡ with_places into lo hi digit)

-- Two registers differ by the definition exactly if their digits differ at some place of the span.
abbrev pub DifferentAtAPlace : Type 0
DifferentAtAPlace = (x y : List ℕ) (lo hi : ℕ)
    → IsTrue (is_different x y lo hi)
    ↔ ((place : ℕ) × (lo ≤ place) × (place ≤ hi) × (slice_index x place ≢ slice_index y place))

-- The number that the digits from lo to hi form in a base; the digit at lo is the least significant
-- one.
abbrev pub number_of : ℕ → List ℕ → ℕ → ℕ → ℕ
number_of base x lo hi = sum_by (λ place. slice_index x place * base ^ (place - lo)) (from_to lo hi)

-- The digits of x form a number in a base: in base 16 all digits of a register do, in base 10 those
-- from 0 to 9.
abbrev pub IsNumberIn : ℕ → List ℕ → ℕ → ℕ → Type 0
IsNumberIn base x lo hi =
    ((base ≡ 16) × IsRegister 14 x)
    ⊎ ((base ≡ 10) × ((place : ℕ) → lo ≤ place → place ≤ hi → slice_index x place ≤ 9))

-- The sum is that of whole numbers: x + y + carry in. If it carries, the base to the power of the
-- width is missing from the result.
abbrev pub SumIsOfNumbers : Type 0
SumIsOfNumbers =
    (base lo hi : ℕ) (into x y z : List ℕ) (carry_in carry : Bool) → lo ≤ hi → hi < 14
    → IsNumberIn base x lo hi → IsNumberIn base y lo hi
    → SumInto base into x y carry_in lo hi z carry
    → number_of base x lo hi + number_of base y lo hi + carry_digit carry_in
    ≡ number_of base z lo hi + carry_digit carry * base ^ (hi + 1 - lo)

-- The difference is that of whole numbers: x - y - borrow in. If it borrows, the result is greater
-- by the base to the power of the width.
abbrev pub DifferenceIsOfNumbers : Type 0
DifferenceIsOfNumbers =
    (base lo hi : ℕ) (into x y z : List ℕ) (borrow_in borrow : Bool) → lo ≤ hi → hi < 14
    → IsNumberIn base x lo hi → IsNumberIn base y lo hi
    → DifferenceInto base into x y borrow_in lo hi z borrow
    → number_of base x lo hi + carry_digit borrow * base ^ (hi + 1 - lo)
    ≡ number_of base z lo hi + number_of base y lo hi + carry_digit borrow_in
