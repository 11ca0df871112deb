-- Three digits of a register, read and written as one number.
use Rattle.std.proofs.Common.{◌≡◌, ℕ, zero, suc, ◌+◌, ◌-◌, ◌*◌, ◌/◌, ◌%◌, ◌<◌, ◌≤◌, List, [], ◌∷◌, ◌++◌, length, get_or, set, take, drop}
use Rattle.std.proofs.Common.{refl, sym, ap, ◌∙◌, arith}
use Rattle.std.proofs.lemmas.List.{get_or-drop, take-append-drop, drop-drop, length-drop, length-take-le}
use Rattle.std.proofs.lemmas.List.Elements.{All-take, All-drop}
use Rattle.h41_digits.specs.Register.{IsRegister, value}
use Rattle.h41_digits.specs.Packed.{digits_of}
use Rattle.h41_digits.proofs.Packed.{digits_of-value}
use Rattle.h41_digits.proofs.Values.{value-below}
use Rattle.h41_ram.specs.RegisterMap.{three_digits, with_three_places}

-- The places that are read.
three_places : (place hi : ℕ) → hi ≡ place + 2 → hi + 1 - place ≡ 3
three_places place hi is = omega arith

value_of_three : (digits : List ℕ) → value (take 3 digits) ≡ get_or digits 0 0 + 16 * get_or digits 1 0 + 256 * get_or digits 2 0
value_of_three [] = refl
value_of_three (a ∷ []) = omega arith
value_of_three (a ∷ b ∷ []) = omega arith
value_of_three (a ∷ b ∷ c ∷ digits) = omega arith

pub three_digits_read : (digits : List ℕ) (place hi : ℕ) → hi ≡ place + 2
    → value (take (hi + 1 - place) (drop place digits)) ≡ three_digits digits place
three_digits_read digits place hi is =
    ap (λ count. value (take count (drop place digits))) (three_places place hi is) ∙ value_of_three (drop place digits)
    ∙ omega (
      arith,
      ap (λ n. get_or digits n 0) (let e : place + 0 ≡ place = omega arith in e),
      get_or-drop place digits 0 0,
      get_or-drop place digits 1 0,
      get_or-drop place digits 2 0,
    )

-- Digits that are written one by one.
set_three : (place : ℕ) (digits : List ℕ) (a b c : ℕ) → place + 3 ≤ length digits
    → take place digits ++ (a ∷ b ∷ c ∷ drop (place + 3) digits) ≡ set (set (set digits place a) (place + 1) b) (place + 2) c
set_three zero [] a b c inside = absurd (omega (arith, inside))
set_three zero (x ∷ []) a b c inside = absurd (omega (arith, inside))
set_three zero (x ∷ y ∷ []) a b c inside = absurd (omega (arith, inside))
set_three zero (x ∷ y ∷ z ∷ digits) a b c inside = refl
set_three (suc place) [] a b c inside = absurd (omega (arith, inside))
set_three (suc place) (x ∷ digits) a b c inside =
    let first : suc place + 1 ≡ suc (place + 1) = omega arith in
    let second : suc place + 2 ≡ suc (place + 2) = omega arith in
    let third : suc place + 3 ≡ suc (place + 3) = omega arith in
    rw (first, second, third) (ap (λ rest. x ∷ rest) (set_three place digits a b c (omega (arith, inside))))

-- The number at the places that were written.
three_of : (digits : List ℕ) (place number : ℕ) → IsRegister 14 digits → place < 12 → value (take 3 (drop place digits)) ≡ number
    → take 3 (drop place digits) ≡ digits_of 3 number
three_of digits place number register inside held =
    let part = take 3 (drop place digits) in
    let size : length part ≡ 3 = length-take-le 3 (drop place digits) (omega (arith, length-drop place digits, register.size)) in
    sym (digits_of-value 3 part (record {
      size = size;
      each = All-take (λ digit. digit < 16) 3 (drop place digits) (All-drop (λ digit. digit < 16) place digits register.each);
    }))
    ∙ ap (digits_of 3) held

last_of_three : (number : ℕ) → number < 4096 → number / 16 / 16 % 16 ≡ number / 256
last_of_three number small = omega arith

digits_of_three : (number : ℕ) → number < 4096 → digits_of 3 number ≡ number % 16 ∷ number / 16 % 16 ∷ number / 256 ∷ []
digits_of_three number small = ap (λ last. number % 16 ∷ number / 16 % 16 ∷ last ∷ []) (last_of_three number small)

-- Writing a number of three digits is writing its digits one by one.
pub three_digits_written : (new old : List ℕ) (place hi number : ℕ) → hi ≡ place + 2 → place < 12 → number < 4096 → IsRegister 14 old
    → IsRegister 14 new → value (take (hi + 1 - place) (drop place new)) ≡ number → take place new ≡ take place old
    → drop (hi + 1) new ≡ drop (hi + 1) old → new ≡ with_three_places old place number
three_digits_written new old place hi number is inside small was register held below above =
    let held_in_three : value (take 3 (drop place new)) ≡ number = rw (three_places place hi is) at held in
    let middle : take 3 (drop place new) ≡ number % 16 ∷ number / 16 % 16 ∷ number / 256 ∷ [] =
    three_of new place number register inside held_in_three ∙ digits_of_three number small in
    let behind : hi + 1 ≡ place + 3 = omega arith in
    let rest : drop (place + 3) new ≡ drop (place + 3) old = rw behind at above in
    let parts : take place new ++ (take 3 (drop place new) ++ drop 3 (drop place new)) ≡ new =
    ap (λ part. take place new ++ part) (take-append-drop 3 (drop place new)) ∙ take-append-drop place new in
    let high : drop 3 (drop place new) ≡ drop (place + 3) new = drop-drop 3 place new in
    sym parts
    ∙ rw (below, middle, high, rest) (set_three place old (number % 16) (number / 16 % 16) (number / 256) (omega (arith, was.size)))

-- Three digits form a number below 1000 hexadecimal.
pub three_digits_fit : (digits : List ℕ) (place hi : ℕ) → IsRegister 14 digits → hi ≡ place + 2 → place < 12
    → value (take (hi + 1 - place) (drop place digits)) < 4096
three_digits_fit digits place hi register is inside =
    let part = take 3 (drop place digits) in
    let size : length part ≡ 3 = length-take-le 3 (drop place digits) (omega (arith, length-drop place digits, register.size)) in
    let small =
    value-below part (All-take (λ digit. digit < 16) 3 (drop place digits) (All-drop (λ digit. digit < 16) place digits register.each)) in
    rw (three_places place hi is) (rw size at small)
