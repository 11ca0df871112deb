-- Sums and differences as whole numbers.
use Rattle.std.proofs.Common.{◌≡◌, ℕ, zero, suc, ◌+◌, ◌-◌, ◌*◌, ◌^◌, ◌<◌, ◌≤◌, List, slice_index, sym, ap, arith, inl, inr, ◌∙◌}
use Rattle.std.proofs.Math.Nat.{pow-succ', pow-zero}
use Rattle.std.specs.List.{sum_by, range_with_len}
use Rattle.h41_fields.specs.Field.{from_to}
use Rattle.h41_arith.specs.DigitRule.{SumDigit, DifferenceDigit, HasCarries, carry_digit}
use Rattle.h41_arith.specs.DigitRuleLaws.{DifferenceIsOfNumbers, IsNumberIn, SumIsOfNumbers}
use Rattle.h41_arith.proofs.Borrows.{digit_lt, sum_more}

-- The number in a base that some digits form, from a place on.
abbrev digits_number : ℕ → List ℕ → ℕ → ℕ → ℕ
digits_number base x lo count = sum_by (λ place. slice_index x place * base ^ (place - lo)) (range_with_len lo count)

number_more : (base : ℕ) (x : List ℕ) (lo count : ℕ)
    → digits_number base x lo (suc count) ≡ digits_number base x lo count + slice_index x (lo + count) * base ^ count
number_more base x lo count =
    let power : lo + count - lo ≡ count = omega arith in
    sum_more (λ place. slice_index x place * base ^ (place - lo)) lo count
    ∙ ap (λ place. digits_number base x lo count + slice_index x (lo + count) * base ^ place) power

digit_below : (base lo hi place : ℕ) (x : List ℕ) → hi < 14 → lo ≤ place → place ≤ hi → IsNumberIn base x lo hi → slice_index x place < base
digit_below base lo hi place x inside from to known = grind (arith, digit_lt)

base_most : (base lo hi : ℕ) (x : List ℕ) → IsNumberIn base x lo hi → base ≤ 16
base_most base lo hi x known = grind arith

-- A sum with one more digit at the left.
sum_digit : (base a b carry z out total_x total_y total_z weight first : ℕ) → base ≤ 16 → a < base → b < base → carry ≤ 1
    → total_x + total_y + first ≡ total_z + carry * weight → SumDigit base a b carry z out
    → (total_x + a * weight) + (total_y + b * weight) + first ≡ (total_z + z * weight) + out * (base * weight)
sum_digit base a b carry z out total_x total_y total_z weight first most p q bit lower (inl digit) =
    let all : (a + b + carry) * weight ≡ z * weight = ap (λ n. n * weight) (sym digit.1) in
    rw digit.2 (omega (arith, all, lower))
sum_digit base a b carry z out total_x total_y total_z weight first most p q bit lower (inr digit) =
    let at : a + b + carry ≡ z + base = omega (arith, digit.0, digit.1) in
    let all : (a + b + carry) * weight ≡ (z + base) * weight = ap (λ n. n * weight) at in
    rw digit.2 (omega (arith, all, lower))

-- A difference with one more digit at the left.
difference_digit : (base a b borrow z out total_x total_y total_z weight first : ℕ) → base ≤ 16 → a < base → b < base → borrow ≤ 1
    → total_x + borrow * weight ≡ total_z + total_y + first → DifferenceDigit base a b borrow z out
    → (total_x + a * weight) + out * (base * weight) ≡ (total_z + z * weight) + (total_y + b * weight) + first
difference_digit base a b borrow z out total_x total_y total_z weight first most p q bit lower (inl digit) =
    let at : a ≡ z + b + borrow = omega (arith, digit.0, digit.1) in
    let all : a * weight ≡ (z + b + borrow) * weight = ap (λ n. n * weight) at in
    rw digit.2 (omega (arith, all, lower))
difference_digit base a b borrow z out total_x total_y total_z weight first most p q bit lower (inr digit) =
    let at : a + base ≡ z + b + borrow = omega (arith, digit.0, digit.1) in
    let all : (a + base) * weight ≡ (z + b + borrow) * weight = ap (λ n. n * weight) at in
    rw digit.2 (omega (arith, all, lower))

sum_bit : (base a b carry z out : ℕ) → SumDigit base a b carry z out → out ≤ 1
sum_bit base a b carry z out known = grind arith

difference_bit : (base a b borrow z out : ℕ) → DifferenceDigit base a b borrow z out → out ≤ 1
difference_bit base a b borrow z out known = grind arith

module _ (base lo hi : ℕ) (x y z : List ℕ) (first out : ℕ) (p : IsNumberIn base x lo hi)
    (q : IsNumberIn base y lo hi) (inside : hi < 14) where
  -- The digits of a sum up to a place are those of whole numbers.
  abbrev IsSum : List ℕ → ℕ → Type 0
  IsSum carries count = (slice_index carries (lo + count) ≤ 1)
      × (digits_number base x lo count + digits_number base y lo count + first
      ≡ digits_number base z lo count + slice_index carries (lo + count) * base ^ count)

  abbrev IsDifference : List ℕ → ℕ → Type 0
  IsDifference carries count = (slice_index carries (lo + count) ≤ 1)
      × (digits_number base x lo count + slice_index carries (lo + count) * base ^ count
      ≡ digits_number base z lo count + digits_number base y lo count + first)

  sum_at : (d : HasCarries (SumDigit base) x y first lo hi z out) (count : ℕ) → lo + count ≤ hi + 1 → IsSum d.carries count
  sum_at d zero within =
      let at : lo + 0 ≡ lo = omega arith in
      let here : slice_index d.carries (lo + 0) ≡ first = ap (slice_index d.carries) at ∙ d.first in
      let weighs : slice_index d.carries (lo + 0) * base ^ 0 ≡ slice_index d.carries (lo + 0) * 1 =
      ap (λ n. slice_index d.carries (lo + 0) * n) (pow-zero base) in
      (omega (arith, here, d.bit), omega (arith, here, weighs))
  sum_at d (suc count) within =
      let place : ℕ = lo + count in
      let lower = sum_at d count (omega arith) in
      let rule = d.places place (omega arith) (omega arith) in
      let at : slice_index d.carries (lo + suc count) ≡ slice_index d.carries (place + 1) = ap (slice_index d.carries) (omega arith) in
      let step =
      sum_digit base (slice_index x place) (slice_index y place) (slice_index d.carries place)
      (slice_index z place) (slice_index d.carries (place + 1))
      (digits_number base x lo count) (digits_number base y lo count)
      (digits_number base z lo count) (base ^ count) first (base_most base lo hi x p)
      (digit_below base lo hi place x inside (omega arith) (omega arith) p)
      (digit_below base lo hi place y inside (omega arith) (omega arith) q) lower.0 lower.1 rule in
      let weighs : slice_index d.carries (lo + suc count) * base ^ suc count ≡ slice_index d.carries (place + 1) * (base * base ^ count) =
      ap (λ n. n * base ^ suc count) at ∙ ap (λ n. slice_index d.carries (place + 1) * n) (pow-succ' base count) in (
        omega (arith, at, sum_bit _ _ _ _ _ _ rule),
        omega (arith, number_more base x lo count, number_more base y lo count, number_more base z lo count, weighs, step),
      )

  difference_at : (d : HasCarries (DifferenceDigit base) x y first lo hi z out) (count : ℕ) → lo + count ≤ hi + 1
      → IsDifference d.carries count
  difference_at d zero within =
      let at : lo + 0 ≡ lo = omega arith in
      let here : slice_index d.carries (lo + 0) ≡ first = ap (slice_index d.carries) at ∙ d.first in
      let weighs : slice_index d.carries (lo + 0) * base ^ 0 ≡ slice_index d.carries (lo + 0) * 1 =
      ap (λ n. slice_index d.carries (lo + 0) * n) (pow-zero base) in
      (omega (arith, here, d.bit), omega (arith, here, weighs))
  difference_at d (suc count) within =
      let place : ℕ = lo + count in
      let lower = difference_at d count (omega arith) in
      let rule = d.places place (omega arith) (omega arith) in
      let at : slice_index d.carries (lo + suc count) ≡ slice_index d.carries (place + 1) = ap (slice_index d.carries) (omega arith) in
      let step =
      difference_digit base (slice_index x place) (slice_index y place)
      (slice_index d.carries place) (slice_index z place) (slice_index d.carries (place + 1))
      (digits_number base x lo count) (digits_number base y lo count)
      (digits_number base z lo count) (base ^ count) first (base_most base lo hi x p)
      (digit_below base lo hi place x inside (omega arith) (omega arith) p)
      (digit_below base lo hi place y inside (omega arith) (omega arith) q) lower.0 lower.1 rule in
      let weighs : slice_index d.carries (lo + suc count) * base ^ suc count ≡ slice_index d.carries (place + 1) * (base * base ^ count) =
      ap (λ n. n * base ^ suc count) at ∙ ap (λ n. slice_index d.carries (place + 1) * n) (pow-succ' base count) in (
        omega (arith, at, difference_bit _ _ _ _ _ _ rule),
        omega (arith, number_more base x lo count, number_more base y lo count, number_more base z lo count, weighs, step),
      )

pub sum_of_numbers : SumIsOfNumbers
unfolding from_to
sum_of_numbers base lo hi into x y z carry_in carry ordered inside p q sum =
    let at : lo + (hi + 1 - lo) ≡ hi + 1 = omega arith in
    let total = sum_at base lo hi x y z (carry_digit carry_in) (carry_digit carry) p q inside sum.digits (hi + 1 - lo) (omega arith) in
    total.1
    ∙ ap (λ out. digits_number base z lo (hi + 1 - lo) + out * base ^ (hi + 1 - lo))
    (ap (slice_index sum.digits.carries) at ∙ sum.digits.last)

pub difference_of_numbers : DifferenceIsOfNumbers
unfolding from_to
difference_of_numbers base lo hi into x y z borrow_in borrow ordered inside p q difference =
    let at : lo + (hi + 1 - lo) ≡ hi + 1 = omega arith in
    let total =
    difference_at base lo hi x y z (carry_digit borrow_in) (carry_digit borrow) p q inside difference.digits (hi + 1 - lo) (omega arith) in
    ap (λ out. digits_number base x lo (hi + 1 - lo) + out * base ^ (hi + 1 - lo))
    (sym (ap (slice_index difference.digits.carries) at ∙ difference.digits.last))
    ∙ total.1
