-- What copies, shifts, loaded digits and tests say of the numbers in parts of a register.
use Rattle.std.proofs.Common.{◌≡◌, ◌≢◌, ℕ, ◌+◌, ◌-◌, ◌*◌, ◌^◌, ◌<◌, ◌≤◌, ◌⊎◌, Bool, true, false, List, ◌==◌, if◌then◌else◌}
use Rattle.std.proofs.Common.{length, slice_index, slice_set, inl, inr, refl, ap, subst, ◌∙◌, arith, rules}
use Rattle.std.proofs.lemmas.Bool.{eq-eqb, ltb-false, ltb-true, ne_eqb}
use Rattle.std.proofs.Math.Nat.{pow-zero}
use Rattle.std.specs.Prelude.{IsTrue}
use Rattle.h41_arith.specs.DigitRule.{KeepsOutside, carry_digit, copy_of, is_different, is_less, shifted_left, shifted_right, span_value}
use Rattle.h41_arith.specs.DigitRuleLaws.{DifferentAtAPlace, HasDigits, ReplacedIsDetermined, number_of}
use Rattle.h41_fields.specs.Field.{from_to}
use Rattle.h41_reasoning.proofs.Spans.{same_number}

-- A carry as a digit.
pub carry_at_most : (carry : Bool) → carry_digit carry ≤ 1
carry_at_most true = omega arith
carry_at_most false = omega arith

pub either : (answer : Bool) → (answer ≡ true) ⊎ (answer ≡ false)
either true = inl refl
either false = inr refl

-- The number of one digit.
pub one_digit : (base : ℕ) (x : List ℕ) (place : ℕ) → number_of base x place place ≡ slice_index x place
unfolding from_to
one_digit base x place =
    let count : place + 1 - place ≡ 1 = omega arith in
    let power : base ^ (place - place) ≡ 1 = ap (λ exponent. base ^ exponent) (omega arith) ∙ pow-zero base in
    rw count (omega (arith, ap (λ weight. slice_index x place * weight) power))

-- A copy.
module _ (replaced : ReplacedIsDetermined) (into x : List ℕ) (lo hi : ℕ) (size : length into ≡ 14) (inside : hi < 14) where
  copied : HasDigits into lo hi (λ place. slice_index x place) (copy_of into x lo hi)
  copied = (replaced into (copy_of into x lo hi) lo hi (λ place. slice_index x place) size inside).1 refl

  pub copy_keeps : KeepsOutside into lo hi (copy_of into x lo hi)
  copy_keeps = copied.outside

  pub copy_number : (base a b : ℕ) → lo ≤ a → b ≤ hi → number_of base (copy_of into x lo hi) a b ≡ number_of base x a b
  copy_number base a b from to =
      same_number base a b x (copy_of into x lo hi)
      (λ place first last. copied.inside place (omega (arith, from, first)) (omega (arith, to, last)))

  pub copy_digit : (place : ℕ) → lo ≤ place → place ≤ hi → slice_index (copy_of into x lo hi) place ≡ slice_index x place
  copy_digit place from to = copied.inside place from to

-- A shift to the right: place hi becomes 0.
module _ (replaced : ReplacedIsDetermined) (into x : List ℕ) (lo hi : ℕ) (size : length into ≡ 14) (inside : hi < 14) where
  shifted : HasDigits into lo hi (λ place. if place == hi then 0 else slice_index x (place + 1)) (shifted_right into x lo hi)
  shifted = (replaced into (shifted_right into x lo hi) lo hi _ size inside).1 refl

  pub right_keeps : KeepsOutside into lo hi (shifted_right into x lo hi)
  right_keeps = shifted.outside

  pub right_top : lo ≤ hi → slice_index (shifted_right into x lo hi) hi ≡ 0
  right_top ordered = shifted.inside hi ordered (omega arith) ∙ ap (λ yes. if yes then 0 else slice_index x (hi + 1)) (eq-eqb hi hi refl)

  pub right_digit : (place : ℕ) → lo ≤ place → place < hi → slice_index (shifted_right into x lo hi) place ≡ slice_index x (place + 1)
  right_digit place from less =
      shifted.inside place from (omega (arith, less))
      ∙ ap (λ yes. if yes then 0 else slice_index x (place + 1)) (ne_eqb place hi (λ same. omega (arith, same, less)))

-- A shift to the left: place lo becomes 0.
module _ (replaced : ReplacedIsDetermined) (into x : List ℕ) (lo hi : ℕ) (size : length into ≡ 14) (inside : hi < 14) where
  moved : HasDigits into lo hi (λ place. if place == lo then 0 else slice_index x (place - 1)) (shifted_left into x lo hi)
  moved = (replaced into (shifted_left into x lo hi) lo hi _ size inside).1 refl

  pub left_keeps : KeepsOutside into lo hi (shifted_left into x lo hi)
  left_keeps = moved.outside

  pub left_low : lo ≤ hi → slice_index (shifted_left into x lo hi) lo ≡ 0
  left_low ordered = moved.inside lo (omega arith) ordered ∙ ap (λ yes. if yes then 0 else slice_index x (lo - 1)) (eq-eqb lo lo refl)

  pub left_digit : (place : ℕ) → lo < place → place ≤ hi → slice_index (shifted_left into x lo hi) place ≡ slice_index x (place - 1)
  left_digit place more to =
      moved.inside place (omega (arith, more)) to
      ∙ ap (λ yes. if yes then 0 else slice_index x (place - 1)) (ne_eqb place lo (λ same. omega (arith, same, more)))

-- A digit that is loaded at a place.
pub loaded_digit : (c : List ℕ) (place digit : ℕ) → place < length c → slice_index (slice_set c place digit) place ≡ digit
loaded_digit c place digit inside = search rules

pub loading_keeps : (c : List ℕ) (place digit : ℕ) → KeepsOutside c place place (slice_set c place digit)
loading_keeps c place digit = record {
  below = λ other less. beside other (λ same. omega (arith, same, less));
  above = λ other more. beside other (λ same. omega (arith, same, more));
}
  where
    beside : (other : ℕ) → other ≢ place → slice_index (slice_set c place digit) other ≡ slice_index c other
    beside other apart = search rules

-- A word that is loaded into the digits 2 to 0.
module _ (c : List ℕ) (one two three : ℕ) (size : length c ≡ 14) where
  abbrev with_word : List ℕ
  with_word = slice_set (slice_set (slice_set c 0 one) 1 two) 2 three

  pub word_digit_0 : slice_index with_word 0 ≡ one
  word_digit_0 = search (rules, size)

  pub word_digit_1 : slice_index with_word 1 ≡ two
  word_digit_1 = search (rules, size)

  pub word_digit_2 : slice_index with_word 2 ≡ three
  word_digit_2 = search (rules, size)

  pub word_number : number_of 16 with_word 0 2 ≡ one + 16 * two + 256 * three
  unfolding from_to
  word_number = omega (arith, word_digit_0, word_digit_1, word_digit_2)

  pub word_keeps : KeepsOutside c 0 2 with_word
  word_keeps = record { below = λ place less. absurd (omega (arith, less)); above = beside }
    where
      beside : (place : ℕ) → 2 < place → slice_index with_word place ≡ slice_index c place
      beside place more = search rules

-- ?A<C and the like.
module _ (x y : List ℕ) (lo hi : ℕ) where
  pub less_number : is_less x y lo hi ≡ true → number_of 16 x lo hi < number_of 16 y lo hi
  unfolding is_less span_value
  less_number test = ltb-true (number_of 16 x lo hi) (number_of 16 y lo hi) test

  pub not_less_number : is_less x y lo hi ≡ false → number_of 16 y lo hi ≤ number_of 16 x lo hi
  unfolding is_less span_value
  not_less_number test = ltb-false (number_of 16 x lo hi) (number_of 16 y lo hi) test

-- ?A#C: what is not different is the same number.
pub same_numbers : DifferentAtAPlace → (base : ℕ) (x y : List ℕ) (lo hi : ℕ) → is_different x y lo hi ≡ false
    → number_of base x lo hi ≡ number_of base y lo hi
same_numbers at_a_place base x y lo hi test =
    same_number base lo hi y x (λ place from to. equal place from to)
  where
    decided : (n m : ℕ) → (n ≢ m → ⊥) → n ≡ m
    decided n m not_apart = search (rules, arith)

    equal : (place : ℕ) → lo ≤ place → place ≤ hi → slice_index x place ≡ slice_index y place
    equal place from to =
        decided (slice_index x place) (slice_index y place)
        (λ apart.
        let found : IsTrue (is_different x y lo hi) = (at_a_place x y lo hi).1 (place, from, to, apart) in
        let never : IsTrue false = subst IsTrue test found in search rules)
