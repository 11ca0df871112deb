-- The borrow of a difference is set exactly if the first register is less than the second.
use Rattle.std.proofs.Common.{◌≡◌, ℕ, zero, suc, ◌+◌, ◌-◌, ◌*◌, ◌^◌, ◌<◌, ◌≤◌, ◌⊎◌, Bool, true, false, nat_lt, List, slice_index, refl}
use Rattle.std.proofs.Common.{sym, ap, subst, arith, inl, inr, ◌∙◌, rules}
use Rattle.std.proofs.Math.Nat.{mul-le-mul_right, pow-succ'}
use Rattle.std.proofs.lemmas.List.Sums.{sum_by-cons}
use Rattle.std.specs.List.{sum_by, range_with_len}
use Rattle.std.proofs.lemmas.List.{get_or-replicate}
use Rattle.std.proofs.Math.ListN.{get_or-eq_default}
use Rattle.h41_digits.specs.Register.{IsRegister}
use Rattle.h41_fields.specs.Field.{from_to}
use Rattle.h41_arith.specs.DigitRule.{DifferenceDigit, HasCarries, Difference, carry_digit, zeros, span_value, is_less}
use Rattle.h41_arith.specs.DigitRuleLaws.{BorrowTellsLess, ComplementBorrows}
use Rattle.h41_arith.proofs.InPlace.{is_less_here, not_less_here}

-- A sum over consecutive numbers is that without the last, plus that of the last.
pub sum_more : (f : ℕ → ℕ) (first count : ℕ)
    → sum_by f (range_with_len first (suc count)) ≡ sum_by f (range_with_len first count) + f (first + count)
sum_more f first zero = search (rules, sum_by-cons)
sum_more f first (suc count) =
    let here : f (first + 1 + count) ≡ f (first + suc count) = ap f (omega arith) in
    omega (
      arith,
      sum_by-cons f first (range_with_len (first + 1) (suc count)),
      sum_by-cons f first (range_with_len (first + 1) count),
      sum_more f (first + 1) count,
      here,
    )

-- The number that some digits form, from a place on.
abbrev pub digits_value : List ℕ → ℕ → ℕ → ℕ
digits_value x lo count = sum_by (λ place. slice_index x place * 16 ^ (place - lo)) (range_with_len lo count)

pub value_more : (x : List ℕ) (lo count : ℕ)
    → digits_value x lo (suc count) ≡ digits_value x lo count + slice_index x (lo + count) * 16 ^ count
value_more x lo count =
    let power : lo + count - lo ≡ count = omega arith in
    sum_more (λ place. slice_index x place * 16 ^ (place - lo)) lo count
    ∙ ap (λ place. digits_value x lo count + slice_index x (lo + count) * 16 ^ place) power

-- Each digit of a register, and what is read after its end, is below 16.
pub digit_lt : (x : List ℕ) (place : ℕ) → IsRegister 14 x → place < 14 → slice_index x place < 16
digit_lt x place register inside = register.each place 0 (omega (arith, register.size))

value_lt : (x : List ℕ) (lo count : ℕ) → IsRegister 14 x → lo + count ≤ 14 → digits_value x lo count < 16 ^ count
value_lt x lo zero register inside = omega arith
value_lt x lo (suc count) register inside =
    let digit : slice_index x (lo + count) + 1 ≤ 16 = omega (arith, digit_lt x (lo + count) register (omega arith)) in
    omega
    (arith, value_more x lo count, value_lt x lo count register (omega arith), pow-succ' 16 count, mul-le-mul_right (16 ^ count) digit)

-- The borrow determines the order of two numbers.
abbrev TellsLess : ℕ → ℕ → ℕ → Type 0
TellsLess borrow x y = ((borrow ≡ 0) × (y ≤ x)) ⊎ ((borrow ≡ 1) × (x < y))

-- The order of two numbers with one more digit at the left.
order_more : (base a b z borrow out x y weight : ℕ) → x < weight → y < weight → TellsLess borrow x y → DifferenceDigit base a b borrow z out
    → TellsLess out (x + a * weight) (y + b * weight)
order_more base a b z borrow out x y weight x_small y_small (inl order) (inl digit) =
    let step : b ≤ a = omega (arith, order.0, digit.0) in
    inl (digit.2, omega (arith, order.1, mul-le-mul_right weight step))
order_more base a b z borrow out x y weight x_small y_small (inl order) (inr digit) =
    let step : a + 1 ≤ b = omega (arith, order.0, digit.0) in
    inr (digit.2, omega (arith, mul-le-mul_right weight step))
order_more base a b z borrow out x y weight x_small y_small (inr order) (inl digit) =
    let step : b + 1 ≤ a = omega (arith, order.0, digit.0) in
    inl (digit.2, omega (arith, mul-le-mul_right weight step))
order_more base a b z borrow out x y weight x_small y_small (inr order) (inr digit) =
    let step : a ≤ b = omega (arith, order.0, digit.0) in
    inr (digit.2, omega (arith, order.1, mul-le-mul_right weight step))

module _ (base lo hi : ℕ) (x y z : List ℕ) (out : ℕ) (p : IsRegister 14 x) (q : IsRegister 14 y) (inside : hi < 14)
    (d : HasCarries (DifferenceDigit base) x y 0 lo hi z out) where
  borrow_at : (count : ℕ) → lo + count ≤ hi + 1
      → TellsLess (slice_index d.carries (lo + count)) (digits_value x lo count) (digits_value y lo count)
  borrow_at zero within =
      let at : lo + 0 ≡ lo = omega arith in
      inl (ap (slice_index d.carries) at ∙ d.first, omega arith)
  borrow_at (suc count) within =
      let at : lo + count + 1 ≡ lo + suc count = omega arith in
      let more =
      order_more base (slice_index x (lo + count)) (slice_index y (lo + count)) (slice_index z (lo + count))
      (slice_index d.carries (lo + count)) (slice_index d.carries (lo + count + 1))
      (digits_value x lo count) (digits_value y lo count) (16 ^ count)
      (value_lt x lo count p (omega arith)) (value_lt y lo count q (omega arith))
      (borrow_at count (omega arith)) (d.places (lo + count) (omega arith) (omega arith)) in
      rw (value_more x lo count, value_more y lo count)
      (subst (λ place. TellsLess (slice_index d.carries place) (digits_value x lo count + slice_index x (lo + count) * 16 ^ count)
      (digits_value y lo count + slice_index y (lo + count) * 16 ^ count))
      at more)

  borrow_out : lo ≤ hi → TellsLess out (digits_value x lo (hi + 1 - lo)) (digits_value y lo (hi + 1 - lo))
  borrow_out ordered =
      let at : lo + (hi + 1 - lo) ≡ hi + 1 = omega arith in
      subst (λ borrow. TellsLess borrow (digits_value x lo (hi + 1 - lo)) (digits_value y lo (hi + 1 - lo)))
      (ap (slice_index d.carries) at ∙ d.last)
      (borrow_at (hi + 1 - lo) (omega arith))

told : (borrow : Bool) (x y : ℕ) → TellsLess (carry_digit borrow) x y → borrow ≡ nat_lt x y
told borrow x y known = grind (arith, is_less_here, not_less_here)

-- In any base, the borrow of x - y is set exactly if x is less than y.
pub borrow_is_less : BorrowTellsLess
unfolding is_less span_value from_to
borrow_is_less base lo hi into x y z borrow ordered inside p q difference =
    told borrow (span_value x lo hi) (span_value y lo hi)
    (borrow_out base lo hi x y z (carry_digit borrow) p q inside difference.digits ordered)

zero_at : (place : ℕ) → slice_index zeros place ≡ 0
zero_at place = search (rules, get_or-replicate, get_or-eq_default)

module _ (base lo hi : ℕ) (x z : List ℕ) (out : ℕ) (d : Difference base zeros x 1 lo hi z out) where
  -- A zero from which a borrow is subtracted borrows again.
  borrow_goes_on : (count : ℕ) → lo + count ≤ hi + 1 → slice_index d.carries (lo + count) ≡ 1
  borrow_goes_on zero within =
      let at : lo + 0 ≡ lo = omega arith in
      ap (slice_index d.carries) at ∙ d.first
  borrow_goes_on (suc count) within =
      let at : lo + count + 1 ≡ lo + suc count = omega arith in
      sym (ap (slice_index d.carries) at)
      ∙ out_of (slice_index zeros (lo + count)) (slice_index x (lo + count)) (slice_index d.carries (lo + count)) _ _
      (zero_at (lo + count)) (borrow_goes_on count (omega arith)) (d.places (lo + count) (omega arith) (omega arith))
    where
      out_of : (a b borrow digit out : ℕ) → a ≡ 0 → borrow ≡ 1 → DifferenceDigit base a b borrow digit out → out ≡ 1
      out_of a b borrow digit out none one (inl p) = absurd (omega (arith, p.0, none, one))
      out_of a b borrow digit out none one (inr p) = p.2

  borrow_stays : lo ≤ hi → out ≡ 1
  borrow_stays ordered =
      let at : lo + (hi + 1 - lo) ≡ hi + 1 = omega arith in
      sym d.last ∙ sym (ap (slice_index d.carries) at) ∙ borrow_goes_on (hi + 1 - lo) (omega arith)

-- The difference 0 - x with a borrow in has a borrow out.
pub complement_borrows : ComplementBorrows
complement_borrows base lo hi into x z true ordered d = refl
complement_borrows base lo hi into x z false ordered d = absurd (omega (arith, borrow_stays base lo hi x z 0 d.digits ordered))
