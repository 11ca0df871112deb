-- Registers whose digits are known place by place.
use Rattle.std.proofs.Common.{if◌then◌else◌, ◌≡◌, ◌≢◌, ℕ, ◌+◌, ◌-◌, ◌<◌, ◌≤◌, true, false, not, ◌==◌, ◌&&◌, nat_le, List, length, rules}
use Rattle.std.proofs.Common.{slice_index, ap, sym, arith, inl, inr, ◌∙◌}
use Rattle.std.proofs.lemmas.List.{ext_get_or, get_or_past}
use Rattle.std.specs.List.{range_with_len}
use Rattle.std.proofs.lemmas.List.Folds.{list_any_none, list_any_at, Any-from_list_any}
use Rattle.std.proofs.lemmas.List.FromFn.{length-range_with_len, get_or-range_with_len, length-map-range_with_len}
use Rattle.std.proofs.lemmas.List.FromFn.{get_or-map-range_with_len}
use Rattle.std.proofs.lemmas.Bool.{cases_lt}
use Rattle.std.proofs.lemmas.Bool.Decides.{nat_tests}
use Rattle.h41_fields.specs.Field.{from_to}
use Rattle.h41_arith.specs.DigitRule.{with_places, is_different}
use Rattle.h41_arith.specs.DigitRuleLaws.{HasDigits, ReplacedIsDetermined, DifferentAtAPlace}

-- At the places from lo up to, but not including, next, z has these digits; elsewhere it is like `into`.
pub record FilledTo (into : List ℕ) (lo next : ℕ) (digit : ℕ → ℕ) (z : List ℕ) : Type 0 where
  pub inside : (place : ℕ) → lo ≤ place → place < next → slice_index z place ≡ digit place
  pub below : (place : ℕ) → place < lo → slice_index z place ≡ slice_index into place
  pub above : (place : ℕ) → next ≤ place → slice_index z place ≡ slice_index into place

-- The digit of a replaced span at a place.
replaced_at : (into : List ℕ) (lo hi : ℕ) (digit : ℕ → ℕ) (place : ℕ) → place < 14
    → slice_index (with_places into lo hi digit) place
    ≡ (if nat_le lo place && nat_le place hi then digit place else slice_index into place)
unfolding with_places from_to
replaced_at into lo hi digit place within =
    get_or-map-range_with_len (λ place. if nat_le lo place && nat_le place hi then digit place else slice_index into place) 0
    14 place place 0 within (omega arith)

length-replaced : (into : List ℕ) (lo hi : ℕ) (digit : ℕ → ℕ) → length (with_places into lo hi digit) ≡ 14
unfolding with_places from_to
length-replaced into lo hi digit = search (rules, length-map-range_with_len)

within_span : (lo place hi : ℕ) → lo ≤ place → place ≤ hi → (nat_le lo place && nat_le place hi) ≡ true
within_span lo place hi from to = grind (arith, nat_tests)

below_span : (lo place hi : ℕ) → place < lo → (nat_le lo place && nat_le place hi) ≡ false
below_span lo place hi low = grind (arith, nat_tests)

above_span : (lo place hi : ℕ) → hi < place → (nat_le lo place && nat_le place hi) ≡ false
above_span lo place hi high = grind (arith, nat_tests)

-- A register with the digits of a replaced span is the replaced register.
pub filled_all : (into z : List ℕ) (lo hi : ℕ) (digit : ℕ → ℕ) → length z ≡ 14 → FilledTo into lo (hi + 1) digit z
    → z ≡ with_places into lo hi digit
filled_all into z lo hi digit size filled =
    ext_get_or 0 z (with_places into lo hi digit) (size ∙ sym (length-replaced into lo hi digit)) (λ place within.
    let small : place < 14 = omega arith in
    let there = replaced_at into lo hi digit place small in
    elim (cases_lt place lo) [
      | inl low ↦ filled.below place low ∙ sym (rw (below_span lo place hi low) at there)
      | inr from ↦ elim (cases_lt hi place) [
        | inl high ↦ filled.above place (omega arith) ∙ sym (rw (above_span lo place hi high) at there)
        | inr to ↦ filled.inside place from (omega arith) ∙ sym (rw (within_span lo place hi from to) at there)
      ]
    ])

-- A replaced span has its digits.
has_digits : (into : List ℕ) (lo hi : ℕ) (digit : ℕ → ℕ) → length into ≡ 14 → hi < 14
    → HasDigits into lo hi digit (with_places into lo hi digit)
has_digits into lo hi digit size inside = record {
  size = length-replaced into lo hi digit;
  inside = λ place from to. rw (within_span lo place hi from to) at (replaced_at into lo hi digit place (omega arith));
  outside = record {
    below = λ place low. elim (cases_lt place 14) [
      | inl small ↦ rw (below_span lo place hi low) at (replaced_at into lo hi digit place small)
      | inr large ↦ past place large
    ];
    above = λ place high. elim (cases_lt place 14) [
      | inl small ↦ rw (above_span lo place hi high) at (replaced_at into lo hi digit place small)
      | inr large ↦ past place large
    ];
  };
}
  where
    past : (place : ℕ) → 14 ≤ place → slice_index (with_places into lo hi digit) place ≡ slice_index into place
    past place large =
        get_or_past (with_places into lo hi digit) place 0 (omega (arith, length-replaced into lo hi digit))
        ∙ sym (get_or_past into place 0 (omega (arith, size)))

pub replaced_determined : ReplacedIsDetermined
replaced_determined into z lo hi digit size inside = (
  λ known. filled_all into z lo hi digit known.size (record {
    inside = λ place from below. known.inside place from (omega arith);
    below = known.outside.below;
    above = λ place high. known.outside.above place (omega arith);
  }),
  λ same. rw same (has_digits into lo hi digit size inside),
)

pub not_same : (a b : ℕ) → a ≢ b → not (a == b) ≡ true
not_same a b other = grind (arith, nat_tests)

pub same : (a b : ℕ) → a ≡ b → not (a == b) ≡ false
same a b equal = grind (arith, nat_tests)

-- A place at which two registers differ.
pub different_at : (x y : List ℕ) (lo hi place : ℕ) → lo ≤ place → place ≤ hi → slice_index x place ≢ slice_index y place
    → is_different x y lo hi ≡ true
unfolding is_different from_to
different_at x y lo hi place from to other =
    let test = λ (place : ℕ). not (slice_index x place == slice_index y place) in
    let index : place - lo < hi + 1 - lo = omega arith in
    let there : lo + (place - lo) ≡ place = omega arith in
    list_any_at test (range_with_len lo (hi + 1 - lo)) (place - lo) 0 (omega (arith, length-range_with_len lo (hi + 1 - lo)))
    (ap test (get_or-range_with_len lo (hi + 1 - lo) (place - lo) 0 index ∙ there)
    ∙ not_same (slice_index x place) (slice_index y place) other)

-- Two registers do not differ at any place.
pub same_throughout : (x y : List ℕ) (lo hi : ℕ) → ((place : ℕ) → lo ≤ place → place ≤ hi → slice_index x place ≡ slice_index y place)
    → is_different x y lo hi ≡ false
unfolding is_different from_to
same_throughout x y lo hi equal = search (rules, list_any_none, length-range_with_len, get_or-range_with_len, same)

pub is_different_tells : DifferentAtAPlace
unfolding is_different from_to
is_different_tells x y lo hi = search (rules, Any-from_list_any, length-range_with_len, get_or-range_with_len, same, different_at)
