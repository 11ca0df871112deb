-- Decimal digits: parts of registers, sums and differences in base 10.
use Rattle.std.proofs.Common.{◌≡◌, ℕ, zero, suc, ◌+◌, ◌-◌, ◌^◌, ◌<◌, ◌≤◌, Bool, List, slice_index, inl, inr, sym, ◌∙◌, arith}
use Rattle.std.proofs.lemmas.Bool.{cases_lt}
use Rattle.h41_arith.specs.DigitRule.{DifferenceDigit, DifferenceInto, HasCarries, HasResult, SumDigit, SumInto, zeros}
use Rattle.h41_arith.specs.DigitRuleLaws.{number_of}
use Rattle.h41_fields.specs.Field.{from_to}
use Rattle.h41_reasoning.proofs.Changes.{carry_at_most, one_digit}
use Rattle.h41_reasoning.proofs.Numbers.{zero_digit}
use Rattle.h41_reasoning.proofs.Spans.{below_power}
use Rattle.h41_reasoning.specs.Decimals.{IsDecimal}

pub zeros_decimal : (lo hi : ℕ) → IsDecimal zeros lo hi
zeros_decimal lo hi place from to = omega (arith, zero_digit place)

-- Parts of a register.
pub decimal_part : (x : List ℕ) (lo hi a b : ℕ) → lo ≤ a → b ≤ hi → IsDecimal x lo hi → IsDecimal x a b
decimal_part x lo hi a b first last is place from to = is place (omega (arith, first, from)) (omega (arith, last, to))

pub decimal_parts : (x : List ℕ) (lo mid hi : ℕ) → IsDecimal x lo mid → IsDecimal x (mid + 1) hi → IsDecimal x lo hi
decimal_parts x lo mid hi low high place from to = elim (cases_lt mid place) [
  | inl more ↦ high place (omega (arith, more)) to
  | inr less ↦ low place from less
]

pub decimal_digit : (x : List ℕ) (place : ℕ) → number_of 16 x place place ≤ 9 → IsDecimal x place place
decimal_digit x place is other from to =
    let here : other ≡ place = omega (arith, from, to) in
    rw here (omega (arith, one_digit 16 x place, is))

-- Digits that are those of another register.
pub decimal_copied : (x z : List ℕ) (lo hi : ℕ) → ((place : ℕ) → lo ≤ place → place ≤ hi → slice_index z place ≡ slice_index x place)
    → IsDecimal x lo hi → IsDecimal z lo hi
decimal_copied x z lo hi same is place from to = omega (arith, same place from to, is place from to)

-- One digit is the same number in both bases.
pub digit_in_both : (x : List ℕ) (place : ℕ) → number_of 10 x place place ≡ number_of 16 x place place
digit_in_both x place = one_digit 10 x place ∙ sym (one_digit 16 x place)

-- A number of decimal digits is below the power of ten.
pub below_ten : (lo hi : ℕ) (x : List ℕ) → IsDecimal x lo hi → number_of 10 x lo hi < 10 ^ (hi + 1 - lo)
unfolding from_to
below_ten lo hi x is =
    below_power 10 x lo (hi + 1 - lo) (λ place from less. omega (arith, is place from (omega (arith, from, less))))

-- One digit of a sum or a difference.
sum_digit : (x y carry z other : ℕ) → SumDigit 10 x y carry z other → x ≤ 9 → y ≤ 9 → carry ≤ 1 → (z ≤ 9) × (other ≤ 1)
sum_digit x y carry z other (inl is) one two three = (omega (arith, is.0, is.1), omega (arith, is.2))
sum_digit x y carry z other (inr is) one two three = (omega (arith, is.0, is.1, one, two, three), omega (arith, is.2))

difference_digit : (x y borrow z other : ℕ) → DifferenceDigit 10 x y borrow z other → x ≤ 9 → y ≤ 9 → borrow ≤ 1 → (z ≤ 9) × (other ≤ 1)
difference_digit x y borrow z other (inl is) one two three = (omega (arith, is.0, is.1, one), omega (arith, is.2))
difference_digit x y borrow z other (inr is) one two three = (omega (arith, is.0, is.1, one, two, three), omega (arith, is.2))

-- A rule of one place that leaves a digit below 10 and a carry of at most 1 leaves such digits everywhere.
module _ (rule : ℕ → ℕ → ℕ → ℕ → ℕ → Type 0)
    (small : (x y carry z other : ℕ) → rule x y carry z other → x ≤ 9 → y ≤ 9 → carry ≤ 1 → (z ≤ 9) × (other ≤ 1))
    (lo hi : ℕ) (into x y z : List ℕ) (carry_in carry : Bool) (one : IsDecimal x lo hi) (two : IsDecimal y lo hi)
    (result : HasResult (HasCarries rule) into x y carry_in lo hi z carry) where
  bit_at : (count : ℕ) → lo + count ≤ hi → slice_index result.digits.carries (lo + count) ≤ 1
  bit_at zero less = let here : lo + 0 ≡ lo = omega arith in rw here (omega (arith, result.digits.first, carry_at_most carry_in))
  bit_at (suc count) less =
      let here : lo + suc count ≡ lo + count + 1 = omega arith in
      let step = result.digits.places (lo + count) (omega arith) (omega (arith, less)) in
      rw here (small _ _ _ _ _ step (one (lo + count) (omega arith) (omega (arith, less)))
      (two (lo + count) (omega arith) (omega (arith, less))) (bit_at count (omega (arith, less)))).1

  decimal_result : IsDecimal z lo hi
  decimal_result place from to =
      let here : lo + (place - lo) ≡ place = omega (arith, from) in
      let bit = rw here at (bit_at (place - lo) (omega (arith, from, to))) in
      (small _ _ _ _ _ (result.digits.places place from to) (one place from to) (two place from to) bit).0

pub decimal_sum : (lo hi : ℕ) (into x y z : List ℕ) (carry_in carry : Bool) → IsDecimal x lo hi → IsDecimal y lo hi
    → SumInto 10 into x y carry_in lo hi z carry → IsDecimal z lo hi
decimal_sum = decimal_result (SumDigit 10) sum_digit

pub decimal_difference : (lo hi : ℕ) (into x y z : List ℕ) (borrow_in borrow : Bool) → IsDecimal x lo hi → IsDecimal y lo hi
    → DifferenceInto 10 into x y borrow_in lo hi z borrow → IsDecimal z lo hi
decimal_difference = decimal_result (DifferenceDigit 10) difference_digit
