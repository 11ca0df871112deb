-- Two registers are compared in a span by the numbers of its digits.
use Rattle.std.proofs.Common.{◌≡◌, ℕ, suc, zero, ◌+◌, ◌-◌, ◌*◌, ◌^◌, ◌<◌, ◌≤◌, Bool, true, false, not, ◌==◌, nat_lt, List, length}
use Rattle.std.proofs.Common.{take, drop, slice_index, refl, sym, ap, arith, inl, inr, ◌∙◌, ◌++◌, ◌∷◌, []}
use Rattle.std.proofs.lemmas.Bool.{cases_eq}
use Rattle.std.proofs.lemmas.List.{ext_get_or, take_more, get_or-drop, length-drop, length-take-le}
use Rattle.h41_digits.specs.Register.{IsRegister, value}
use Rattle.h41_digits.specs.Packed.{value-cons}
use Rattle.h41_digits.proofs.Values.{same_register}
use Rattle.h41_digits.proofs.Parts.{value-append}
use Rattle.h41_fields.specs.Field.{from_to}
use Rattle.h41_arith.specs.DigitRule.{span_value, is_less, is_different}
use Rattle.h41_arith.proofs.Borrows.{digits_value, value_more}
use Rattle.h41_arith.proofs.Places.{different_at, same_throughout, not_same, same}
use Rattle.h41_arith.proofs.Parts.{part, part_at, part-register}

-- The number of some digits with one more digit at the left.
last_more : (x : List ℕ) (lo count : ℕ) → lo + count < length x
    → value (take (count + 1) (drop lo x)) ≡ value (take count (drop lo x)) + slice_index x (lo + count) * 16 ^ count
last_more x lo count inside =
    let size : length (take count (drop lo x)) ≡ count = length-take-le count (drop lo x) (omega (arith, length-drop lo x)) in
    let one : value (slice_index x (lo + count) ∷ []) ≡ slice_index x (lo + count) =
    omega (arith, value-cons (slice_index x (lo + count)) []) in
    ap value (take_more (drop lo x) count 0 (omega (arith, length-drop lo x)))
    ∙ ap (λ digit. value (take count (drop lo x) ++ digit ∷ [])) (get_or-drop lo x count 0)
    ∙ value-append (take count (drop lo x)) (slice_index x (lo + count) ∷ [])
    ∙ placed (value (take count (drop lo x))) (length (take count (drop lo x))) count
    (value (slice_index x (lo + count) ∷ [])) (slice_index x (lo + count)) size one
  where
    placed : (low n count v digit : ℕ) → n ≡ count → v ≡ digit → low + 16 ^ n * v ≡ low + digit * 16 ^ count
    placed low n count v digit size one = rw (size, one) (omega arith)

same_value : (x : List ℕ) (lo count : ℕ) → lo + count ≤ length x → digits_value x lo count ≡ value (take count (drop lo x))
same_value x lo zero inside = refl
same_value x lo (suc count) inside =
    let next : count + 1 ≡ suc count = omega arith in
    value_more x lo count ∙ ap (λ low. low + slice_index x (lo + count) * 16 ^ count) (same_value x lo count (omega arith))
    ∙ sym (last_more x lo count (omega arith)) ∙ ap (λ n. value (take n (drop lo x))) next

span_value_is : (x : List ℕ) (lo hi : ℕ) → IsRegister 14 x → lo ≤ hi → hi < 14 → span_value x lo hi ≡ value (part x lo hi)
unfolding span_value from_to
span_value_is x lo hi register ordered inside = same_value x lo (hi + 1 - lo) (omega (arith, register.size))

pub less_by_number : (x y : List ℕ) (lo hi a b : ℕ) → IsRegister 14 x → IsRegister 14 y → lo ≤ hi → hi < 14 → a ≡ value (part x lo hi)
    → b ≡ value (part y lo hi) → nat_lt a b ≡ is_less x y lo hi
unfolding is_less
less_by_number x y lo hi a b p q ordered inside is_a is_b =
    ap (λ n. nat_lt n b) (is_a ∙ sym (span_value_is x lo hi p ordered inside))
    ∙ ap (nat_lt (span_value x lo hi)) (is_b ∙ sym (span_value_is y lo hi q ordered inside))

-- If the digits are the same at every place, the numbers are the same.
same_part : (x y : List ℕ) (lo hi : ℕ) → IsRegister 14 x → IsRegister 14 y → lo ≤ hi → hi < 14 → is_different x y lo hi ≡ false
    → value (part x lo hi) ≡ value (part y lo hi)
same_part x y lo hi p q ordered inside told =
    let a = part-register x lo hi p ordered inside in
    let b = part-register y lo hi q ordered inside in
    ap value (ext_get_or 0 (part x lo hi) (part y lo hi) (a.size ∙ sym b.size) (λ index few.
    let read : lo + index - lo ≡ index = omega arith in
    let at_x : slice_index x (lo + index) ≡ slice_index (part x lo hi) index =
    part_at x lo hi (lo + index) (omega arith) (omega (arith, a.size)) ∙ ap (slice_index (part x lo hi)) read in
    let at_y : slice_index y (lo + index) ≡ slice_index (part y lo hi) index =
    part_at y lo hi (lo + index) (omega arith) (omega (arith, a.size)) ∙ ap (slice_index (part y lo hi)) read in
    elim (cases_eq (slice_index x (lo + index)) (slice_index y (lo + index))) [
      | inl equal ↦ sym at_x ∙ equal ∙ at_y
      | inr other ↦ absurd (cc (told, different_at x y lo hi (lo + index) (omega arith) (omega (arith, a.size)) other))
    ]))

told_different : (x y : List ℕ) (lo hi : ℕ) (answer : Bool) → IsRegister 14 x → IsRegister 14 y → lo ≤ hi → hi < 14
    → is_different x y lo hi ≡ answer → not (value (part x lo hi) == value (part y lo hi)) ≡ answer
told_different x y lo hi false p q ordered inside told = same _ _ (same_part x y lo hi p q ordered inside told)
told_different x y lo hi true p q ordered inside told = not_same _ _ (λ equal.
    let digits =
    same_register (hi + 1 - lo) (part x lo hi) (part y lo hi)
    (part-register x lo hi p ordered inside) (part-register y lo hi q ordered inside) equal in
    let none : is_different x y lo hi ≡ false = same_throughout x y lo hi (λ place from to.
    part_at x lo hi place from to ∙ ap (λ d. slice_index d (place - lo)) digits ∙ sym (part_at y lo hi place from to)) in
    cc (told, none))

pub different_by_number : (x y : List ℕ) (lo hi a b : ℕ) → IsRegister 14 x → IsRegister 14 y → lo ≤ hi → hi < 14 → a ≡ value (part x lo hi)
    → b ≡ value (part y lo hi) → not (a == b) ≡ is_different x y lo hi
different_by_number x y lo hi a b p q ordered inside is_a is_b =
    rw (is_a, is_b) (told_different x y lo hi (is_different x y lo hi) p q ordered inside refl)
