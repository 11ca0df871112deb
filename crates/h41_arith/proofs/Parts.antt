-- The places of a span as one number.
use Rattle.std.proofs.Common.{if◌then◌else◌, ◌==◌, ◌≡◌, ℕ, suc, ◌+◌, ◌-◌, ◌*◌, ◌/◌, ◌%◌, ◌^◌, ◌<◌, ◌≤◌, List, [], ◌∷◌, ◌++◌, length, take}
use Rattle.std.proofs.Common.{drop, slice_index, refl, sym, ap, arith, inl, inr, ◌∙◌, ◌≢◌, rules}
use Rattle.std.proofs.Math.Nat.{pow-succ'}
use Rattle.std.proofs.lemmas.Nat.{mod-mul-add}
use Rattle.std.proofs.lemmas.Bool.{cases_lt}
use Rattle.std.proofs.lemmas.Bool.Decides.{nat_tests}
use Rattle.std.specs.List.{AllByRecursion}
use Rattle.std.proofs.lemmas.List.{get_or-take, get_or-drop, length-take-le, length-drop, length_push, take-append-drop, get_or_append_left}
use Rattle.std.proofs.lemmas.List.{get_or_at}
use Rattle.std.proofs.lemmas.List.Elements.{recursion_from_All, All-take, All-drop, All-cons, All-push}
use Rattle.h41_digits.specs.Register.{IsRegister, value}
use Rattle.h41_digits.specs.Packed.{value-cons}
use Rattle.h41_digits.proofs.Values.{same_register, value-below}
use Rattle.h41_digits.proofs.Parts.{value-append}
use Rattle.h41_arith.specs.DigitRule.{KeepsOutside, with_places}
use Rattle.h41_arith.proofs.Places.{filled_all}

-- The digits at the places from lo to hi.
abbrev pub part : List ℕ → ℕ → ℕ → List ℕ
part digits lo hi = take (hi + 1 - lo) (drop lo digits)

pub part_at : (digits : List ℕ) (lo hi place : ℕ) → lo ≤ place → place ≤ hi
    → slice_index digits place ≡ slice_index (part digits lo hi) (place - lo)
part_at digits lo hi place from to = search (rules, get_or-take, get_or-drop)

pub part-register : (digits : List ℕ) (lo hi : ℕ) → IsRegister 14 digits → lo ≤ hi → hi < 14 → IsRegister (hi + 1 - lo) (part digits lo hi)
part-register digits lo hi register ordered inside = record {
  size = length-take-le (hi + 1 - lo) (drop lo digits) (omega (arith, length-drop lo digits, register.size));
  each = All-take (λ digit. digit < 16) (hi + 1 - lo) (drop lo digits) (All-drop (λ digit. digit < 16) lo digits register.each);
}

pub part-lt : (digits : List ℕ) (lo hi : ℕ) → IsRegister 14 digits → lo ≤ hi → hi < 14 → value (part digits lo hi) < 16 ^ (hi + 1 - lo)
part-lt digits lo hi register ordered inside = search (rules, part-register, value-below)

-- What was written is read, and the other digits do not change.
pub keeps_outside : (into z : List ℕ) (lo hi : ℕ) → take lo z ≡ take lo into → drop (hi + 1) z ≡ drop (hi + 1) into
    → KeepsOutside into lo hi z
keeps_outside into z lo hi below above = record {
  below = λ place low. sym (get_or-take lo z place 0 low) ∙ ap (λ d. slice_index d place) below ∙ get_or-take lo into place 0 low;
  above = λ place high. past into z place above high;
}
  where
    there : (digits : List ℕ) (place : ℕ) → hi < place → slice_index (drop (hi + 1) digits) (place - (hi + 1)) ≡ slice_index digits place
    there digits place high = get_or-drop (hi + 1) digits (place - (hi + 1)) 0 ∙ ap (slice_index digits) (omega arith)

    past : (into z : List ℕ) (place : ℕ) → drop (hi + 1) z ≡ drop (hi + 1) into → hi < place → slice_index z place ≡ slice_index into place
    past into z place above high = sym (there z place high) ∙ ap (λ d. slice_index d (place - (hi + 1))) above ∙ there into place high

-- The digits of a part with a known number.
pub known_part : (z digits : List ℕ) (lo hi place : ℕ) → IsRegister 14 z → lo ≤ hi → hi < 14 → IsRegister (hi + 1 - lo) digits
    → value (part z lo hi) ≡ value digits → lo ≤ place → place ≤ hi → slice_index z place ≡ slice_index digits (place - lo)
known_part z digits lo hi place register ordered inside are held from to =
    part_at z lo hi place from to
    ∙ ap (λ d. slice_index d (place - lo))
    (same_register (hi + 1 - lo) (part z lo hi) digits (part-register z lo hi register ordered inside) are held)

-- A register in which known digits were inserted is the one that the definition of a replaced span gives.
pub replaced_by : (into z digits : List ℕ) (lo hi : ℕ) (digit : ℕ → ℕ) → IsRegister 14 z → lo ≤ hi → hi < 14
    → IsRegister (hi + 1 - lo) digits → value (part z lo hi) ≡ value digits → take lo z ≡ take lo into
    → drop (hi + 1) z ≡ drop (hi + 1) into → ((place : ℕ) → lo ≤ place → place ≤ hi → slice_index digits (place - lo) ≡ digit place)
    → z ≡ with_places into lo hi digit
replaced_by into z digits lo hi digit register ordered inside are held below above is =
    let outside = keeps_outside into z lo hi below above in
    filled_all into z lo hi digit register.size (record {
      inside =
          λ place from to.
          known_part z digits lo hi place register ordered inside are held from (omega arith) ∙ is place from (omega arith);
      below = outside.below;
      above = λ place high. outside.above place (omega arith);
    })

-- The number of digits of a span is not zero; the highest of them.
pub span_size : (lo hi : ℕ) → lo ≤ hi → hi + 1 - lo ≡ suc (hi - lo)
span_size lo hi ordered = omega arith

-- The digits of a part one place up: the number times 16, without what exceeds the last place.
up_value : (digits : List ℕ) (count : ℕ) → IsRegister (suc count) digits
    → value digits * 16 % 16 ^ suc count ≡ value (0 ∷ take count digits)
up_value digits count register =
    let low = take count digits in
    let size : length low ≡ count = length-take-le count digits (omega (arith, register.size)) in
    let small : value low < 16 ^ count = rw size at (value-below low (All-take (λ digit. digit < 16) count digits register.each)) in
    let split : value digits ≡ value low + 16 ^ count * value (drop count digits) =
    ap value (sym (take-append-drop count digits)) ∙ value-append low (drop count digits)
    ∙ ap (λ n. value low + 16 ^ n * value (drop count digits)) size in
    let fits : 16 * value low < 16 ^ suc count = omega (arith, small, pow-succ' 16 count) in
    ap (λ n. n % 16 ^ suc count)
    (moved_up (value digits) (value low) (16 ^ count) (value (drop count digits)) (16 ^ suc count) split (pow-succ' 16 count))
    ∙ mod-mul-add (value (drop count digits)) (16 ^ suc count) (16 * value low) fits ∙ zero_first low
  where
    zero_first : (low : List ℕ) → 16 * value low ≡ value (0 ∷ low)
    zero_first low = omega (arith, value-cons 0 low)

    moved_up : (whole low weight high next : ℕ) → whole ≡ low + weight * high → next ≡ 16 * weight → whole * 16 ≡ high * next + 16 * low
    moved_up whole low weight high next split is_next = rw (split, is_next) (omega arith)

-- The digits of a part one place down: a sixteenth of the number.
down_value : (digits : List ℕ) → AllByRecursion (λ digit. digit < 16) digits → value digits / 16 ≡ value (drop 1 digits ++ 0 ∷ [])
down_value [] each = refl
down_value (digit ∷ digits) each = omega (arith, value-cons digit digits, each.0, value-append digits (0 ∷ []))

abbrev pub up : List ℕ → ℕ → ℕ → List ℕ
up digits lo hi = 0 ∷ take (hi - lo) (part digits lo hi)

abbrev pub down : List ℕ → ℕ → ℕ → List ℕ
down digits lo hi = drop 1 (part digits lo hi) ++ 0 ∷ []

pub up-value : (digits : List ℕ) (lo hi : ℕ) → IsRegister 14 digits → lo ≤ hi → hi < 14
    → value (part digits lo hi) * 16 % 16 ^ (hi + 1 - lo) ≡ value (up digits lo hi)
up-value digits lo hi register ordered inside = search (rules, span_size, up_value, part-register)

pub down-value : (digits : List ℕ) (lo hi : ℕ) → IsRegister 14 digits → lo ≤ hi → hi < 14
    → value (part digits lo hi) / 16 ≡ value (down digits lo hi)
down-value digits lo hi register ordered inside = search (rules, down_value, recursion_from_All, part-register)

pub up-register : (digits : List ℕ) (lo hi : ℕ) → IsRegister 14 digits → lo ≤ hi → hi < 14 → IsRegister (hi + 1 - lo) (up digits lo hi)
up-register digits lo hi register ordered inside =
    let old = part-register digits lo hi register ordered inside in record {
      size = omega (arith, length-take-le (hi - lo) (part digits lo hi) (omega (arith, old.size)));
      each =
          All-cons (λ digit. digit < 16) 0 (take (hi - lo) (part digits lo hi)) (omega arith)
          (All-take (λ digit. digit < 16) (hi - lo) (part digits lo hi) old.each);
    }

pub down-register : (digits : List ℕ) (lo hi : ℕ) → IsRegister 14 digits → lo ≤ hi → hi < 14 → IsRegister (hi + 1 - lo) (down digits lo hi)
down-register digits lo hi register ordered inside =
    let old = part-register digits lo hi register ordered inside in record {
      size = omega (arith, length_push (drop 1 (part digits lo hi)) 0, length-drop 1 (part digits lo hi), old.size);
      each =
          All-push (λ digit. digit < 16) (drop 1 (part digits lo hi)) 0
          (All-drop (λ digit. digit < 16) 1 (part digits lo hi) old.each) (omega arith);
    }

up_other : (lo place digit : ℕ) → place ≢ lo → digit ≡ (if place == lo then 0 else digit)
up_other lo place digit other = grind (arith, nat_tests)

up_first : (lo place digit : ℕ) → place ≡ lo → 0 ≡ (if place == lo then 0 else digit)
up_first lo place digit here = grind (arith, nat_tests)

pub up_at : (digits : List ℕ) (lo hi place : ℕ) → lo ≤ place → place ≤ hi
    → slice_index (up digits lo hi) (place - lo) ≡ (if place == lo then 0 else slice_index digits (place - 1))
up_at digits lo hi place from to = elim (cases_lt lo place) [
  | inl above ↦
      let index : place - lo ≡ suc (place - lo - 1) = omega arith in
      ap (slice_index (up digits lo hi)) index ∙ get_or-take (hi - lo) (part digits lo hi) (place - lo - 1) 0 (omega arith)
      ∙ ap (slice_index (part digits lo hi)) (omega arith) ∙ sym (part_at digits lo hi (place - 1) (omega arith) (omega arith))
      ∙ up_other lo place (slice_index digits (place - 1)) (omega arith)
  | inr here ↦
      let index : place - lo ≡ 0 = omega arith in
      ap (slice_index (up digits lo hi)) index ∙ up_first lo place (slice_index digits (place - 1)) (omega arith)
]

pub down_at : (digits : List ℕ) (lo hi place : ℕ) → IsRegister 14 digits → hi < 14 → lo ≤ place → place ≤ hi
    → slice_index (down digits lo hi) (place - lo) ≡ (if place == hi then 0 else slice_index digits (place + 1))
down_at digits lo hi place register inside from to =
    let old = part-register digits lo hi register (omega arith) inside in
    let size : length (drop 1 (part digits lo hi)) ≡ hi - lo = omega (arith, length-drop 1 (part digits lo hi), old.size) in
    elim (cases_lt place hi) [
      | inl below ↦
          get_or_append_left (drop 1 (part digits lo hi)) (0 ∷ []) 0 (place - lo) (omega (arith, size))
          ∙ get_or-drop 1 (part digits lo hi) (place - lo) 0
          ∙ ap (slice_index (part digits lo hi)) (omega arith) ∙ sym (part_at digits lo hi (place + 1) (omega arith) (omega arith))
          ∙ up_other hi place (slice_index digits (place + 1)) (omega arith)
      | inr here ↦
          get_or_at (drop 1 (part digits lo hi)) 0 [] 0 (place - lo) (omega (arith, size))
          ∙ up_first hi place (slice_index digits (place + 1)) (omega arith)
    ]

-- A part of a number is below its limit.
pub sixteenth : (number limit : ℕ) → number < limit → number / 16 < limit
sixteenth number limit small = omega arith
