-- The numbers that the digits of a field form: after sums and differences of 1, and when they are zero.
use Rattle.std.proofs.Common.{◌≡◌, ◌≢◌, ℕ, ◌+◌, ◌-◌, ◌*◌, ◌^◌, ◌<◌, ◌≤◌, Bool, true, false, List, slice_index}
use Rattle.std.proofs.Common.{inl, inr, refl, subst, sym, ◌∙◌, arith, rules}
use Rattle.std.specs.Prelude.{IsTrue}
use Rattle.std.specs.List.{All}
use Rattle.std.proofs.lemmas.Bool.{cases_lt}
use Rattle.std.proofs.lemmas.List.{get_or-replicate, get_or_past}
use Rattle.std.proofs.lemmas.List.FromFn.{get_or-range_with_len, length-range_with_len}
use Rattle.std.proofs.lemmas.List.Sums.{get_or-le-sum_by, sum_by-le}
use Rattle.std.proofs.Math.Nat.{mul-le-mul_left, one-le-pow}
use Rattle.h41_arith.specs.DigitRule.{DifferenceInto, SumInto, carry_digit, is_nonzero, zeros}
use Rattle.h41_arith.specs.DigitRuleLaws.{DifferenceIsOfNumbers, DifferentAtAPlace, IsNumberIn, SumIsOfNumbers, number_of}
use Rattle.h41_digits.specs.Register.{IsRegister}
use Rattle.h41_fields.specs.Field.{from_to}

-- The register of zeros has the digit 0 everywhere, and its digits form the number 0.
pub zero_digit : (place : ℕ) → slice_index zeros place ≡ 0
zero_digit place = elim (cases_lt place 14) [
  | inl less ↦ get_or-replicate 14 place 0 0 less
  | inr more ↦ get_or_past zeros place 0 more
]

pub no_digits_no_number : (base lo hi : ℕ) (x : List ℕ) → ((place : ℕ) → lo ≤ place → place ≤ hi → slice_index x place ≡ 0)
    → number_of base x lo hi ≡ 0
unfolding from_to
no_digits_no_number base lo hi x none =
    let each : All (λ place. slice_index x place * base ^ (place - lo) ≤ 0) (from_to lo hi) =
    λ k d less.
    let inside : k < hi + 1 - lo = omega (arith, less, length-range_with_len lo (hi + 1 - lo)) in
    let is_place = get_or-range_with_len lo (hi + 1 - lo) k d inside in
    subst (λ place. slice_index x place * base ^ (place - lo) ≤ 0) (sym is_place)
    (rw (none (lo + k) (omega arith) (omega arith)) (omega arith)) in
    omega (arith, sum_by-le (λ place. slice_index x place * base ^ (place - lo)) 0 (from_to lo hi) each)

pub zeros_number : (base lo hi : ℕ) → number_of base zeros lo hi ≡ 0
zeros_number base lo hi = no_digits_no_number base lo hi zeros (λ place from to. zero_digit place)

pub zeros_register : IsRegister 14 zeros
zeros_register = record { size = refl; each = λ k d less. subst (λ digit. digit < 16) (sym (get_or-replicate 14 k 0 d less)) (omega arith) }

zeros_in : (base lo hi : ℕ) (x : List ℕ) → IsNumberIn base x lo hi → IsNumberIn base zeros lo hi
zeros_in base lo hi x (inl (is, register)) = inl (is, zeros_register)
zeros_in base lo hi x (inr (is, digits)) = inr (is, λ place from to. rw (zero_digit place) (omega arith))

-- A sum with 1, and a difference with 1.
module _ (base lo hi : ℕ) (into x z : List ℕ) (carry : Bool) (ordered : lo ≤ hi) (inside : hi < 14) (is : IsNumberIn base x lo hi) where
  pub incremented : SumIsOfNumbers → SumInto base into x zeros true lo hi z carry
      → number_of base z lo hi + carry_digit carry * base ^ (hi + 1 - lo) ≡ number_of base x lo hi + 1
  incremented of_numbers sum =
      omega (
        arith,
        zeros_number base lo hi,
        of_numbers base lo hi into x zeros z true carry ordered inside is (zeros_in base lo hi x is) sum,
      )

  pub decremented : DifferenceIsOfNumbers → DifferenceInto base into x zeros true lo hi z carry
      → number_of base z lo hi + 1 ≡ number_of base x lo hi + carry_digit carry * base ^ (hi + 1 - lo)
  decremented of_numbers difference =
      omega (
        arith,
        zeros_number base lo hi,
        of_numbers base lo hi into x zeros z true carry ordered inside is (zeros_in base lo hi x is) difference,
      )

-- A sum carries exactly if it does not fit.
pub fits_without_carry : (carry : Bool) (rest limit total : ℕ) → rest + carry_digit carry * limit ≡ total → total < limit
    → (carry ≡ false) × (rest ≡ total)
fits_without_carry true rest limit total is less = absurd (omega (arith, is, less))
fits_without_carry false rest limit total is less = (refl, omega (arith, is))

-- A difference borrows exactly if it would be below zero.
pub left_without_borrow : (borrow : Bool) (rest limit number : ℕ) → rest + 1 ≡ number + carry_digit borrow * limit → rest < limit
    → 0 < number
    → (borrow ≡ false) × (rest + 1 ≡ number)
left_without_borrow true rest limit number is less some = absurd (omega (arith, is, less, some))
left_without_borrow false rest limit number is less some = (refl, omega (arith, is))

-- A field is tested for zero: its number is zero exactly if the test is false.
module _ (at_a_place : DifferentAtAPlace) (base lo hi : ℕ) (x : List ℕ) (positive : 0 < base) where
  digit_zero : is_nonzero x lo hi ≡ false → (place : ℕ) → lo ≤ place → place ≤ hi → slice_index x place ≡ 0
  digit_zero test place from to = elim (cases_lt 0 (slice_index x place)) [
    | inl some ↦
        let found : IsTrue (is_nonzero x lo hi) =
        (at_a_place x zeros lo hi).1 (place, from, to, λ same. omega (arith, same, some, zero_digit place)) in
        absurd (let never : IsTrue false = subst IsTrue test found in search rules)
    | inr none ↦ omega (arith, none)
  ]

  pub zero_number : is_nonzero x lo hi ≡ false → number_of base x lo hi ≡ 0
  zero_number test = no_digits_no_number base lo hi x (digit_zero test)

  pub some_number : is_nonzero x lo hi ≡ true → 0 < number_of base x lo hi
  unfolding from_to
  some_number test =
      let found = (at_a_place x zeros lo hi).0 (subst IsTrue (sym test) (search rules)) in
      let inside : found.0 - lo < hi + 1 - lo = omega (arith, found.1, found.2) in
      let is_place = get_or-range_with_len lo (hi + 1 - lo) (found.0 - lo) 0 inside in
      let here : lo + (found.0 - lo) ≡ found.0 = omega (arith, found.1) in
      let part = get_or-le-sum_by (λ place. slice_index x place * base ^ (place - lo)) (from_to lo hi) (found.0 - lo) 0
      (omega (arith, inside, length-range_with_len lo (hi + 1 - lo))) in
      let at : slice_index x found.0 * base ^ (found.0 - lo) ≤ number_of base x lo hi =
      subst (λ place. slice_index x place * base ^ (place - lo) ≤ number_of base x lo hi) (is_place ∙ here) part in
      let digit : 0 < slice_index x found.0 = nonzero (slice_index x found.0) (λ none. found.3 (none ∙ sym (zero_digit found.0))) in
      omega (
        arith,
        at,
        digit,
        positive_product (slice_index x found.0) (base ^ (found.0 - lo)) digit
            (one-le-pow (found.0 - lo) base positive),
      )
    where
      nonzero : (n : ℕ) → n ≢ 0 → 0 < n
      nonzero n some = omega (arith, some)

      positive_product : (a b : ℕ) → 0 < a → 0 < b → 0 < a * b
      positive_product a b one two = omega (arith, mul-le-mul_left a two)
