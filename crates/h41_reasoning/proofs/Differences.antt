-- ?A#C that finds a difference: the numbers differ too.
use Rattle.std.proofs.Common.{◌≡◌, ◌≢◌, ℕ, zero, suc, ◌+◌, ◌-◌, ◌*◌, ◌^◌, ◌<◌, ◌≤◌, true, List, slice_index}
use Rattle.std.proofs.Common.{inl, inr, ap, subst, sym, arith, rules}
use Rattle.std.proofs.Math.Nat.{mul-le-mul_left}
use Rattle.std.proofs.lemmas.Bool.{cases_lt}
use Rattle.std.specs.Prelude.{IsTrue}
use Rattle.h41_arith.specs.DigitRule.{is_different}
use Rattle.h41_arith.specs.DigitRuleLaws.{DifferentAtAPlace, IsNumberIn, number_of}
use Rattle.h41_fields.specs.Field.{from_to}
use Rattle.h41_reasoning.proofs.Spans.{below_power, number_from, number_more}

-- A digit and what is below it are determined by their number.
same_digit : (a b limit m n : ℕ) → a + m * limit ≡ b + n * limit → a < limit → b < limit → (m ≡ n) × (a ≡ b)
same_digit a b limit m n same less_a less_b = elim (cases_lt m n) [
  | inl less ↦ absurd (omega (arith, same, less_a, less_b, mul-le-mul_left limit less))
  | inr most ↦ elim (cases_lt n m) [
    | inl less ↦ absurd (omega (arith, same, less_a, less_b, mul-le-mul_left limit less))
    | inr least ↦
        let equal : m ≡ n = omega (arith, most, least) in
        (equal, omega (arith, same, ap (λ (k : ℕ). k * limit) equal))
  ]
]

-- Digits are determined by their number, if the number of some of them is always below a power of the base.
same_digits : (base lo count : ℕ) (x y : List ℕ) → ((some : ℕ) → some ≤ count → number_from base x lo some < base ^ some)
    → ((some : ℕ) → some ≤ count → number_from base y lo some < base ^ some)
    → number_from base x lo count ≡ number_from base y lo count
    → (index : ℕ) → index < count → slice_index x (lo + index) ≡ slice_index y (lo + index)
same_digits base lo zero x y below_x below_y same index less = absurd (omega (arith, less))
same_digits base lo (suc count) x y below_x below_y same index less =
    let both = same_digit (number_from base x lo count) (number_from base y lo count) (base ^ count) (slice_index x (lo + count))
    (slice_index y (lo + count)) (omega (arith, same, number_more base x lo count, number_more base y lo count))
    (below_x count (omega arith)) (below_y count (omega arith)) in
    elim (cases_lt index count) [
      | inl inside ↦
          same_digits base lo count x y (λ some most. below_x some (omega (arith, most))) (λ some most. below_y some (omega (arith, most)))
          both.1 index inside
      | inr past ↦
          let last : index ≡ count = omega (arith, less, past) in
          rw last both.0
    ]

-- The number of some digits of a register in base 16, or of decimal digits in base 10, is below a power of the base.
limited : (base lo hi : ℕ) (x : List ℕ) → lo ≤ hi → hi < 14 → IsNumberIn base x lo hi → (count : ℕ) → count ≤ hi + 1 - lo
    → number_from base x lo count < base ^ count
limited base lo hi x ordered inside (inl (is, register)) count most =
    below_power base x lo count (λ place from less.
    omega (arith, is, register.each place 0 (omega (arith, register.size, less, most, ordered, inside))))
limited base lo hi x ordered inside (inr (is, digits)) count most =
    below_power base x lo count (λ place from less. omega (arith, is, digits place from (omega (arith, less, most, ordered))))

pub different_numbers : DifferentAtAPlace → (base lo hi : ℕ) (x y : List ℕ) → lo ≤ hi → hi < 14 → IsNumberIn base x lo hi
    → IsNumberIn base y lo hi → is_different x y lo hi ≡ true
    → number_of base x lo hi ≢ number_of base y lo hi
unfolding from_to
different_numbers at_a_place base lo hi x y ordered inside is_x is_y test same =
    let found = (at_a_place x y lo hi).0 (subst IsTrue (sym test) (search rules)) in
    let here : lo + (found.0 - lo) ≡ found.0 = omega (arith, found.1) in
    let equal = same_digits base lo (hi + 1 - lo) x y (limited base lo hi x ordered inside is_x) (limited base lo hi y ordered inside is_y)
    same (found.0 - lo) (omega (arith, found.1, found.2)) in
    found.3 (subst (λ (place : ℕ). slice_index x place ≡ slice_index y place) here equal)
