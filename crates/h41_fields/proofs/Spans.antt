-- Why the places of a field are consecutive.
use Rattle.std.proofs.Common.{List, cond, ◌≡◌, ℕ, zero, suc, ◌+◌, ◌-◌, ◌<◌, ◌≤◌, Bool, true, false, ◌∷◌, length, slice_index, filter, refl}
use Rattle.std.proofs.Common.{ap, arith, inl, inr, ◌∙◌, sym}
use Rattle.std.specs.List.{range_with_len}
use Rattle.std.proofs.lemmas.Bool.Decides.{nat_tests}
use Rattle.std.proofs.lemmas.List.FromFn.{length-range_with_len, get_or-range_with_len}
use Rattle.h41_fields.specs.declared.field.Field.TheVariants.{AtPointer, SignAndExponent, ToPointer, All, PToQ, ExponentSign, Mantissa}
use Rattle.h41_fields.specs.declared.field.Field.TheVariants.{MantissaSign}
use Rattle.std.proofs.lemmas.Bool.{cases_lt}
use Rattle.h41_fields.specs.declared.field.Field.{Field}
use Rattle.h41_fields.specs.declared.field.Pointer.{Pointer}
use Rattle.h41_fields.specs.Field.{active_place, is_place, is_pointed, register_places, places, first_place, last_place, from_to}
use Rattle.h41_fields.specs.FieldLaws.{PlacesAreOrdered}

-- The test passes from lo to hi, and nowhere else.
pub record PassesFromTo (test : ℕ → Bool) (lo hi : ℕ) : Type 0 where
  pub below : (place : ℕ) → place < lo → test place ≡ false
  pub inside : (place : ℕ) → lo ≤ place → place ≤ hi → test place ≡ true
  pub above : (place : ℕ) → hi < place → place < 14 → test place ≡ false

-- The numbers that pass, in a list that begins with the first passing place or after it.
filter_from : (test : ℕ → Bool) (lo hi first count : ℕ) → PassesFromTo test lo hi → lo ≤ first → hi < first + count → first + count ≤ 14
    → filter test (range_with_len first count) ≡ range_with_len first (hi + 1 - first)
filter_from test lo hi first zero passes from past few =
    let none : hi + 1 - first ≡ 0 = omega arith in rw none refl
filter_from test lo hi first (suc count) passes from past few =
    elim (cases_lt hi first) [
      | inl gone ↦
          let none : hi + 1 - first ≡ 0 = omega arith in
          let next : hi + 1 - (first + 1) ≡ 0 = omega arith in
          rw (passes.above first gone (omega arith), none)
          (filter_from test lo hi (first + 1) count passes (omega arith) (omega arith) (omega arith) ∙ ap (range_with_len (first + 1)) next)
      | inr here ↦
          let some : hi + 1 - first ≡ suc (hi + 1 - (first + 1)) = omega arith in
          rw (passes.inside first from here, some)
          (ap (λ rest. first ∷ rest) (filter_from test lo hi (first + 1) count passes (omega arith) (omega arith) (omega arith)))
    ]

-- The numbers that pass, in a list that begins before the first passing place.
filter_to : (test : ℕ → Bool) (lo hi first count : ℕ) → PassesFromTo test lo hi → first ≤ lo → lo ≤ hi → hi < first + count
    → first + count ≤ 14 → filter test (range_with_len first count) ≡ range_with_len lo (hi + 1 - lo)
filter_to test lo hi first zero passes before ordered past few = absurd (omega arith)
filter_to test lo hi first (suc count) passes before ordered past few =
    elim (cases_lt first lo) [
      | inl less ↦
          rw (passes.below first less) (filter_to test lo hi (first + 1) count passes (omega arith) ordered (omega arith) (omega arith))
      | inr here ↦
          let same : first ≡ lo = omega arith in
          rw (sym same) (filter_from test lo hi first (suc count) passes (omega arith) past few)
    ]

-- A field whose test passes from lo to hi has just these places, and they are its first and last.
pub record IsSpanOf (field : Field) (p q : ℕ) (active : Pointer) (lo hi : ℕ) : Type 0 where
  pub first : lo ≡ first_place field p q active
  pub last : hi ≡ last_place field p q active
  pub each : places field p q active ≡ from_to lo hi

pub IsSpanOf-from_test : (field : Field) (p q : ℕ) (active : Pointer) (lo hi : ℕ) → PassesFromTo (is_place field p q active) lo hi → lo ≤ hi
    → hi < 14 → IsSpanOf field p q active lo hi
unfolding places register_places from_to first_place last_place
IsSpanOf-from_test field p q active lo hi passes ordered inside =
    let all : places field p q active ≡ range_with_len lo (hi + 1 - lo) =
    filter_to (is_place field p q active) lo hi 0 14 passes (omega arith) ordered (omega arith) (omega arith) in
    let size : length (places field p q active) ≡ hi + 1 - lo = ap length all ∙ length-range_with_len lo (hi + 1 - lo) in record {
      first = sym (ap (λ list. slice_index list 0) all ∙ get_or-range_with_len lo (hi + 1 - lo) 0 0 (omega arith) ∙ omega arith);
      last =
          sym (ap (λ list. slice_index list (length list - 1)) all
          ∙ ap (λ count. slice_index (range_with_len lo (hi + 1 - lo)) (count - 1)) (length-range_with_len lo (hi + 1 - lo))
          ∙ get_or-range_with_len lo (hi + 1 - lo) (hi + 1 - lo - 1) 0 (omega arith) ∙ omega arith);
      each = all;
    }

-- Each field's first and last place.
pub span_at_pointer : (p q : ℕ) (active : Pointer) → active_place p q active < 14
    → IsSpanOf AtPointer p q active (active_place p q active) (active_place p q active)
span_at_pointer p q active inside =
    IsSpanOf-from_test AtPointer p q active (active_place p q active) (active_place p q active)
    (record {
      below = λ place h. grind (arith, nat_tests);
      inside = λ place h k. grind (arith, nat_tests);
      above = λ place h k. grind (arith, nat_tests);
    })
    (omega arith) inside

pub span_to_pointer : (p q : ℕ) (active : Pointer) → active_place p q active < 14
    → IsSpanOf ToPointer p q active 0 (active_place p q active)
span_to_pointer p q active inside =
    IsSpanOf-from_test ToPointer p q active 0 (active_place p q active)
    (record {
      below = λ place h. absurd (omega arith);
      inside = λ place h k. grind (arith, nat_tests);
      above = λ place h k. grind (arith, nat_tests);
    })
    (omega arith) inside

pub span_p_to_q : (p q : ℕ) (active : Pointer) → p ≤ q → q < 14 → IsSpanOf PToQ p q active p q
span_p_to_q p q active ordered inside =
    IsSpanOf-from_test PToQ p q active p q
    (record {
      below = λ place h. grind (arith, nat_tests);
      inside = λ place h k. grind (arith, nat_tests);
      above = λ place h k. grind (arith, nat_tests);
    })
    ordered inside

pub span_p_to_last : (p q : ℕ) (active : Pointer) → q < p → p < 14 → IsSpanOf PToQ p q active p 13
span_p_to_last p q active above inside =
    IsSpanOf-from_test PToQ p q active p 13
    (record {
      below = λ place h. grind (arith, nat_tests);
      inside = λ place h k. grind (arith, nat_tests);
      above = λ place h k. absurd (omega arith);
    })
    (omega arith) (omega arith)

pub span_of_all : (p q : ℕ) (active : Pointer) → IsSpanOf All p q active 0 13
unfolding places register_places from_to first_place last_place
span_of_all p q active = record { first = refl; last = refl; each = refl }

pub span_sign_and_exponent : (p q : ℕ) (active : Pointer) → IsSpanOf SignAndExponent p q active 0 2
unfolding places register_places from_to first_place last_place
span_sign_and_exponent p q active = record { first = refl; last = refl; each = refl }

pub span_exponent_sign : (p q : ℕ) (active : Pointer) → IsSpanOf ExponentSign p q active 2 2
unfolding places register_places from_to first_place last_place
span_exponent_sign p q active = record { first = refl; last = refl; each = refl }

pub span_mantissa : (p q : ℕ) (active : Pointer) → IsSpanOf Mantissa p q active 3 12
unfolding places register_places from_to first_place last_place
span_mantissa p q active = record { first = refl; last = refl; each = refl }

pub span_mantissa_sign : (p q : ℕ) (active : Pointer) → IsSpanOf MantissaSign p q active 13 13
unfolding places register_places from_to first_place last_place
span_mantissa_sign p q active = record { first = refl; last = refl; each = refl }

-- The remaining field that depends on the pointers.
pub span_of_other : (field : Field) (p q : ℕ) (active : Pointer) → active_place p q active < 14 → is_pointed field ≡ true
    → (field ≡ AtPointer → ⊥) → (field ≡ PToQ → ⊥) → IsSpanOf field p q active 0 (active_place p q active)
span_of_other AtPointer p q active inside pointed first second = absurd (first refl)
span_of_other ToPointer p q active inside pointed first second = span_to_pointer p q active inside
span_of_other PToQ p q active inside pointed first second = absurd (second refl)
span_of_other field p q active inside pointed first second = cc

-- Each number of a list is at least this.
abbrev AllFrom : ℕ → List ℕ → Type 0
AllFrom first list = (index : ℕ) → index < length list → first ≤ slice_index list index

from_cons : (first : ℕ) (rest : List ℕ) → AllFrom first rest → AllFrom first (first ∷ rest)
from_cons first rest behind zero inside = omega arith
from_cons first rest behind (suc index) inside = behind index (omega arith)

-- The numbers that pass are not less than the first number of the list.
kept_from : (test : ℕ → Bool) (first count : ℕ) → AllFrom first (filter test (range_with_len first count))
kept_from test first zero = λ index inside. absurd (omega arith)
kept_from test first (suc count) =
    let rest = filter test (range_with_len (first + 1) count) in
    let behind = kept_from test (first + 1) count in
    elim (test first) as (λ passes. AllFrom first (cond passes (first ∷ rest) rest)) [
      | true ↦ from_cons first rest (λ index inside. omega (arith, behind index inside))
      | false ↦ λ index inside. omega (arith, behind index inside)
    ]

-- The first number of a list is not above its last.
abbrev FirstIsLow : List ℕ → Type 0
FirstIsLow list = slice_index list 0 ≤ slice_index list (length list - 1)

kept_ordered : (test : ℕ → Bool) (first count : ℕ) → FirstIsLow (filter test (range_with_len first count))
kept_ordered test first zero = omega arith
kept_ordered test first (suc count) =
    let rest = filter test (range_with_len (first + 1) count) in
    elim (test first) as (λ passes. FirstIsLow (cond passes (first ∷ rest) rest)) [
      | true ↦
          from_cons first rest (λ index inside. omega (arith, kept_from test (first + 1) count index inside))
          (length (first ∷ rest) - 1) (omega arith)
      | false ↦ kept_ordered test (first + 1) count
    ]

pub places_ordered : PlacesAreOrdered
unfolding places register_places first_place last_place
places_ordered field p q active = kept_ordered (is_place field p q active) 0 14
