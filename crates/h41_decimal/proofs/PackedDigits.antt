-- Decimal digits in four bits each.
use Rattle.std.proofs.Common.{◌≡◌, ℕ, zero, suc, ◌+◌, ◌-◌, ◌*◌, ◌/◌, ◌%◌, ◌^◌, ◌<◌, ◌≤◌, List, ◌∷◌, Some, None, get_or, take, drop}
use Rattle.std.proofs.Common.{Option, Bool, true, false, refl, sym, ap, ◌∙◌, arith}
use Rattle.std.specs.Prelude.{slice_index, nat_le, if◌then◌else◌, IfSome}
use Rattle.std.specs.Option.{option_map}
use Rattle.std.proofs.Math.Nat.{pow-succ'}
use Rattle.std.proofs.lemmas.Bool.Decides.{nat_tests}
use Rattle.std.proofs.lemmas.List.{get_or-drop, get_or-take, length-drop, length-take-le}
use Rattle.std.proofs.lemmas.List.Elements.{All-take, All-drop}
use Rattle.h41_digits.specs.Register.{IsRegister, value}
use Rattle.h41_digits.specs.Packed.{digits_of}
use Rattle.h41_digits.proofs.Packed.{digits_of-value}
use Rattle.h41_digits.proofs.Values.{value-below}
use Rattle.h41_decimal.specs.Holding.{decimal_in}
use Rattle.h41_decimal.specs.private.PackedDigits.{decimal_of, word_of_digits}
use Rattle.h41_decimal.proofs.Held.{below_power}

-- The first digit, and the digits after it.
pub digit_more : (count digits : ℕ) (others : Option ℕ) → digits % 16 ≤ 9 → decimal_of count (digits / 16) ≡ others
    → decimal_of (suc count) digits ≡ option_map (λ rest. digits % 16 + 10 * rest) others
digit_more count digits others small is =
    let t : nat_le (digits % 16) 9 ≡ true = grind (arith, nat_tests) in
    ap (λ b. if b then option_map (λ rest. digits % 16 + 10 * rest) (decimal_of count (digits / 16)) else None) t
    ∙ ap (option_map (λ rest. digits % 16 + 10 * rest)) is

pub no_digit : (count digits : ℕ) → 9 < digits % 16 → decimal_of (suc count) digits ≡ None
no_digit count digits above =
    let t : nat_le (digits % 16) 9 ≡ false = grind (arith, nat_tests) in
    ap (λ b. if b then option_map (λ rest. digits % 16 + 10 * rest) (decimal_of count (digits / 16)) else None) t

none_either : (b : Bool) (f : ℕ → ℕ) (others : Option ℕ) → others ≡ None → (if b then option_map f others else None) ≡ None
none_either true f others none = ap (option_map f) none
none_either false f others none = refl

pub no_digit_behind : (count digits : ℕ) → decimal_of count (digits / 16) ≡ None → decimal_of (suc count) digits ≡ None
no_digit_behind count digits none =
    none_either (nat_le (digits % 16) 9) (λ rest. digits % 16 + 10 * rest) (decimal_of count (digits / 16)) none

-- Digits that were packed.
decimal_of-packed : (count number : ℕ) → number < 10 ^ count → decimal_of count (word_of_digits count number) ≡ Some number
decimal_of-packed zero number small = ap Some (omega (arith, small))
decimal_of-packed (suc count) number small =
    let rest = word_of_digits count (number / 10) in
    let low : (number % 10 + 16 * rest) % 16 ≡ number % 10 = omega arith in
    let high : (number % 10 + 16 * rest) / 16 ≡ rest = omega arith in
    let fewer : number / 10 < 10 ^ count = omega (arith, pow-succ' 10 count, small) in
    digit_more count (number % 10 + 16 * rest) (Some (number / 10)) (omega (arith, low))
    (ap (decimal_of count) high ∙ decimal_of-packed count (number / 10) fewer)
    ∙ ap Some (let e : (number % 10 + 16 * rest) % 16 + 10 * (number / 10) ≡ number = omega (arith, low) in e)

-- Packing two and four digits at a time.
packed_two_more : (count number : ℕ) → word_of_digits (suc (suc count)) number
    ≡ word_of_digits 2 (number % 100) + 256 * word_of_digits count (number / 100)
packed_two_more count number =
    let tens : number / 10 / 10 ≡ number / 100 = omega arith in
    let low : number % 100 % 10 ≡ number % 10 = omega arith in
    let high : number % 100 / 10 % 10 ≡ number / 10 % 10 = omega arith in
    omega (arith, ap (word_of_digits count) tens, low, high)

-- Three digits of which the first is known.
pub packed_behind : (first rest low : ℕ) → first ≤ 9 → rest < 100 → low ≡ word_of_digits 2 rest → 256 * first + low
    ≡ word_of_digits 3 (100 * first + rest)
packed_behind first rest low one two low_is =
    let digits : (100 * first + rest) % 100 ≡ rest = omega arith in
    let front : (100 * first + rest) / 100 % 10 ≡ first = omega arith in
    joined_parts first low _ _ _ (low_is ∙ sym (ap (word_of_digits 2) digits)) front (packed_two_more 1 (100 * first + rest))
  where
    joined_parts : (first low two digit all : ℕ) → low ≡ two → digit ≡ first → all ≡ two + 256 * (digit + 16 * 0) → 256 * first + low ≡ all
    joined_parts first low two digit all low_is digit_is all_is = omega arith

-- Digits that are equal are read as equal numbers.
moved : (x y : List ℕ) (p q count : ℕ) → ((k : ℕ) → k < count → slice_index x (p + k) ≡ slice_index y (q + k))
    → decimal_in x p count ≡ decimal_in y q count
moved x y p q zero same = refl
moved x y p q (suc count) same =
    let p_is : p + 0 ≡ p = omega arith in
    let q_is : q + 0 ≡ q = omega arith in
    let digit : slice_index x p ≡ slice_index y q = rw (p_is, q_is) at (same 0 (omega arith)) in
    let rest = moved x y (p + 1) (q + 1) count (λ k lt.
    let p_next : p + 1 + k ≡ p + (k + 1) = omega arith in
    let q_next : q + 1 + k ≡ q + (k + 1) = omega arith in
    rw (p_next, q_next) (same (k + 1) (omega arith))) in
    ap (λ t. if nat_le t 9 then option_map (λ rest. t + 10 * rest) (decimal_in x (p + 1) count) else None) digit
    ∙ ap (λ o. if nat_le (slice_index y q) 9 then option_map (λ rest. slice_index y q + 10 * rest) o else None) rest

behind_first : (digit : ℕ) (digits : List ℕ) (count : ℕ) → decimal_in (digit ∷ digits) 1 count ≡ decimal_in digits 0 count
behind_first digit digits count = moved (digit ∷ digits) digits 1 0 count (λ k lt.
    let next : 1 + k ≡ suc k = omega arith in
    let same : 0 + k ≡ k = omega arith in
    rw (next, same) refl)

-- The digits of a register, by their number.
digits_read : (count number : ℕ) → decimal_in (digits_of count number) 0 count ≡ decimal_of count number
digits_read zero number = refl
digits_read (suc count) number =
    ap (λ others. if nat_le (number % 16) 9 then option_map (λ rest. number % 16 + 10 * rest) others else None)
    (behind_first (number % 16) (digits_of count (number / 16)) count ∙ digits_read count (number / 16))

part_is : (register : List ℕ) (place count : ℕ) → IsRegister 14 register → place + count ≤ 14
    → IsRegister count (take count (drop place register))
part_is register place count is inside = record {
  size = length-take-le count (drop place register) (omega (arith, length-drop place register, is.size));
  each = All-take (λ digit. digit < 16) count (drop place register) (All-drop (λ digit. digit < 16) place register is.each);
}

pub part-lt : (register : List ℕ) (place count : ℕ) → IsRegister 14 register → place + count ≤ 14
    → value (take count (drop place register)) < 16 ^ count
part-lt register place count is inside =
    let part = part_is register place count is inside in
    rw part.size at (value-below (take count (drop place register)) part.each)

pub decimal_read : (register : List ℕ) (place count number : ℕ) → IsRegister 14 register → place + count ≤ 14
    → value (take count (drop place register)) ≡ number → decimal_in register place count ≡ decimal_of count number
decimal_read register place count number is inside held =
    let part = take count (drop place register) in
    moved register part place 0 count (λ k lt.
    let same : 0 + k ≡ k = omega arith in
    rw same (sym (get_or-take count (drop place register) k 0 lt ∙ get_or-drop place register k 0)))
    ∙ ap (λ digits. decimal_in digits 0 count) (sym (digits_of-value count part (part_is register place count is inside)))
    ∙ digits_read count (value part) ∙ ap (decimal_of count) held

pub few_digits : (register : List ℕ) (place count : ℕ) (number : Option ℕ) → number ≡ decimal_in register place count
    → IfSome number (λ n. n < 10 ^ count)
few_digits register place count (Some number) is = below_power register place count number (sym is)
few_digits register place count None is = tt

-- A register in which packed digits were written.
pub packed_written : (register : List ℕ) (place count number : ℕ) → IsRegister 14 register → place + count ≤ 14
    → number < 10 ^ count → value (take count (drop place register)) ≡ word_of_digits count number
    → decimal_in register place count ≡ Some number
packed_written register place count number is inside small held =
    decimal_read register place count (word_of_digits count number) is inside held ∙ decimal_of-packed count number small

pub same_above : (new old : List ℕ) (place k : ℕ) → drop place new ≡ drop place old → place ≤ k → slice_index new k ≡ slice_index old k
same_above new old place k same from =
    let at : place + (k - place) ≡ k = omega arith in
    rw at at (sym (get_or-drop place new (k - place) 0) ∙ ap (λ digits. get_or digits (k - place) 0) same
    ∙ get_or-drop place old (k - place) 0)
