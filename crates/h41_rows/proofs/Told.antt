-- A test of a whole number has the same result if all from 1000 on are treated alike.
use Rattle.std.proofs.Common.{◌≡◌, ℕ, ◌<◌, ◌≤◌, ap, Some, rules}
use Rattle.std.specs.Prelude.{ℤ, if◌then◌else◌, nat_lt}
use Rattle.std.proofs.lemmas.Bool.Decides.{nat_tests}
use Rattle.h41_decimal.specs.Holding.{Holding, Number, Text, Other, worth}
use Rattle.h41_rows.specs.private.Wholes.{told_number}

-- Numbers below 1000, and numbers from 1000 on.
pub told_below : (n : ℕ) → n < 1000 → told_number n ≡ n
told_below n small = search (rules, nat_tests)

pub told_above : (n : ℕ) → 1000 ≤ n → told_number n ≡ 1000
told_above n large = search (rules, nat_tests)

-- A test that fails from some number up to 1000 on has the same result for both.
pub told_asked : {A : Type 0} (most : ℕ) (f : ℕ → A) (other : A) (n : ℕ) → most ≤ 1000
    → (if nat_lt (told_number n) most then f (told_number n) else other) ≡ (if nat_lt n most then f n else other)
told_asked most f other n small = search (rules, told_below, nat_tests, told_above)

-- A register's content that has a number is that number.
pub number_held : (held : Holding) (value : ℤ) → worth held ≡ Some value → held ≡ Number value
number_held (Number other) value e = ap Number (let same : other ≡ value = cc in same)
number_held (Text bytes) value e = cc
number_held Other value e = cc
