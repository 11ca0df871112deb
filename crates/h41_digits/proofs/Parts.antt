-- Some places of a register as a number.
use Rattle.std.proofs.Common.{◌≡◌, ℕ, suc, zero, ◌+◌, ◌-◌, ◌*◌, ◌/◌, ◌%◌, ◌^◌, ◌<◌, ◌≤◌, List, [], ◌∷◌, ◌++◌, length, take, drop, refl, sym}
use Rattle.std.proofs.Common.{ap, arith, ◌∙◌, length-append, append_assoc}
use Rattle.std.proofs.Math.Nat.{pow-succ', div-div-eq-div-mul, div-one, mod-eq_of_lt}
use Rattle.std.proofs.lemmas.Nat.{mod-pow-add, and_mask, one_shl}
use Rattle.std.proofs.lemmas.List.{take_at, drop_all, drop_at, take-append-drop, drop-drop, length-take-le, length-drop}
use Rattle.std.proofs.lemmas.List.Elements.{All-append, All-take, All-drop}
use Rattle.std.specs.Int.RustNames.{bit_and}
use Rattle.h41_digits.specs.Register.{IsRegister, value}
use Rattle.h41_digits.specs.Packed.{digits_of, value-digits_of, value-cons}
use Rattle.h41_digits.proofs.Packed.{bits_of_places, length-digits_of, is_register, register-digits_of, kept_as}

-- The lowest digits of a number form its remainder by the power of 16.
pub value-digits_of_any : (places number : ℕ) → value (digits_of places number) ≡ number % 16 ^ places
value-digits_of_any zero number = omega arith
value-digits_of_any (suc places) number =
    let split : number % 16 ^ suc places ≡ number / 16 % 16 ^ places * 16 + number % 16 =
    ap (λ weight. number % weight) (sym (bits_of_places (suc places)) ∙ ap (λ bits. 2 ^ bits) (omega arith))
    ∙ mod-pow-add number (4 * places) 4 ∙ ap (λ weight. number / 16 % weight * 16 + number % 16) (bits_of_places places) in
    omega (arith, value-cons (number % 16) (digits_of places (number / 16)), value-digits_of_any places (number / 16), split)

-- The number of a list of digits that is followed by another list.
pub value-append : (low high : List ℕ) → value (low ++ high) ≡ value low + 16 ^ length low * value high
value-append [] high = omega arith
value-append (digit ∷ low) high =
    rw (value-cons digit (low ++ high), value-cons digit low, value-append low high, pow-succ' 16 (length low)) (omega arith)

pub take-digits_of : (count places number : ℕ) → count ≤ places → take count (digits_of places number) ≡ digits_of count number
take-digits_of zero places number few = refl
take-digits_of (suc count) zero number few = absurd (omega (arith, few))
take-digits_of (suc count) (suc places) number few =
    ap (λ digits. number % 16 ∷ digits) (take-digits_of count places (number / 16) (omega (arith, few)))

pub drop-digits_of : (count places number : ℕ) → count ≤ places
    → drop count (digits_of places number) ≡ digits_of (places - count) (number / 16 ^ count)
drop-digits_of zero places number few =
    sym (ap (λ rest. digits_of (places - 0) rest) (div-one number) ∙ ap (λ left. digits_of left number) (omega arith))
drop-digits_of (suc count) zero number few = absurd (omega (arith, few))
drop-digits_of (suc count) (suc places) number few =
    drop-digits_of count places (number / 16) (omega (arith, few))
    ∙ ap (λ rest. digits_of (places - count) rest)
    (div-div-eq-div-mul number 16 (16 ^ count) ∙ ap (λ weight. number / weight) (sym (pow-succ' 16 count)))
    ∙ ap (λ left. digits_of left (number / 16 ^ suc count)) (omega arith)

-- The number that some places of a word form.
pub part_read : (places word lo count : ℕ) (digits : List ℕ) → digits_of places word ≡ digits → lo + count ≤ places
    → value (take count (drop lo digits)) ≡ word / 16 ^ lo % 16 ^ count
part_read places word lo count digits seen inside =
    ap (λ d. value (take count (drop lo d))) (sym seen) ∙ ap (λ d. value (take count d)) (drop-digits_of lo places word (omega arith))
    ∙ ap value (take-digits_of count (places - lo) (word / 16 ^ lo) (omega arith)) ∙ value-digits_of_any count (word / 16 ^ lo)

pub number_read : (places word lo hi : ℕ) (digits : List ℕ) → digits_of places word ≡ digits → places ≤ 14 → lo ≤ hi → hi < places
    → bit_and (word / 2 ^ (4 * lo)) (1 * 2 ^ (4 * (hi + 1 - lo)) % 2 ^ 64 - 1) ≡ value (take (hi + 1 - lo) (drop lo digits))
number_read places word lo hi digits seen few ordered inside =
    let count = hi + 1 - lo in
    ap (λ ones. bit_and (word / 2 ^ (4 * lo)) (ones - 1)) (one_shl (4 * count) 64 (omega arith))
    ∙ and_mask (word / 2 ^ (4 * lo)) (4 * count)
    ∙ ap (λ weight. word / weight % 2 ^ (4 * count)) (bits_of_places lo) ∙ ap (λ weight. word / 16 ^ lo % weight) (bits_of_places count)
    ∙ sym (part_read places word lo count digits seen (omega arith))

-- The places are all those of the register.
abbrev AreAll : ℕ → ℕ → ℕ → Type 0
AreAll places lo hi = (lo ≤ hi) × (hi < places) × (hi + 1 - lo ≡ places)

pub all_read : (places word lo hi : ℕ) (digits : List ℕ) → digits_of places word ≡ digits → word < 16 ^ places → AreAll places lo hi
    → word ≡ value (take (hi + 1 - lo) (drop lo digits))
all_read places word lo hi digits seen fits all =
    let first : lo ≡ 0 = omega (arith, all.0, all.1, all.2) in
    let part : word / 16 ^ lo % 16 ^ (hi + 1 - lo) ≡ word =
    ap (λ n. word / 16 ^ n % 16 ^ (hi + 1 - lo)) first ∙ ap (λ n. word / 1 % 16 ^ n) all.2 ∙ ap (λ n. n % 16 ^ places) (div-one word)
    ∙ mod-eq_of_lt fits in
    sym (part_read places word lo (hi + 1 - lo) digits seen (omega (arith, all.0, all.1)) ∙ part)

pub none_above : (places lo hi : ℕ) (digits others : List ℕ) → IsRegister places digits → IsRegister places others → AreAll places lo hi
    → drop (hi + 1) digits ≡ drop (hi + 1) others
none_above places lo hi digits others one other all =
    drop_all (hi + 1) digits (omega (arith, one.size, all.0, all.1, all.2))
    ∙ sym (drop_all (hi + 1) others (omega (arith, other.size, all.0, all.1, all.2)))

-- A register in which the digits of a number replace some of its own.
abbrev pub spliced : List ℕ → ℕ → ℕ → ℕ → List ℕ
spliced digits lo hi number = take lo digits ++ (digits_of (hi + 1 - lo) number ++ drop (hi + 1) digits)

value-three : (low middle high : List ℕ) (lo count : ℕ) → length low ≡ lo → length middle ≡ count
    → value (low ++ (middle ++ high)) ≡ value low + 16 ^ lo * (value middle + 16 ^ count * value high)
value-three low middle high lo count is_lo is_count = rw (value-append low (middle ++ high), value-append middle high, is_lo, is_count) refl

three_parts_of : (digits : List ℕ) (lo hi : ℕ) → lo ≤ hi
    → take lo digits ++ (take (hi + 1 - lo) (drop lo digits) ++ drop (hi + 1) digits) ≡ digits
three_parts_of digits lo hi ordered =
    ap (λ rest. take lo digits ++ (take (hi + 1 - lo) (drop lo digits) ++ rest))
    (ap (λ n. drop n digits) (omega arith) ∙ sym (drop-drop (hi + 1 - lo) lo digits))
    ∙ ap (λ rest. take lo digits ++ rest) (take-append-drop (hi + 1 - lo) (drop lo digits)) ∙ take-append-drop lo digits

exchanged : (new old low weight middle was number high : ℕ) → new ≡ low + weight * (middle + high) → old ≡ low + weight * (was + high)
    → middle ≡ number → new + was * weight ≡ old + number * weight
exchanged new old low weight middle was number high is_new is_old is_number = rw (is_new, is_old, is_number) (omega arith)

spliced-value : (digits : List ℕ) (lo hi number : ℕ) → lo ≤ hi → hi < length digits → number < 16 ^ (hi + 1 - lo)
    → value (spliced digits lo hi number) + value (take (hi + 1 - lo) (drop lo digits)) * 16 ^ lo ≡ value digits + number * 16 ^ lo
spliced-value digits lo hi number ordered inside small =
    let count = hi + 1 - lo in
    let is_lo : length (take lo digits) ≡ lo = length-take-le lo digits (omega arith) in
    let is_count : length (take count (drop lo digits)) ≡ count =
    length-take-le count (drop lo digits) (omega (arith, length-drop lo digits)) in
    let new = value-three (take lo digits) (digits_of count number) (drop (hi + 1) digits) lo count is_lo (length-digits_of count number) in
    let old = value-three (take lo digits) (take count (drop lo digits)) (drop (hi + 1) digits) lo count is_lo is_count in
    let whole = ap value (three_parts_of digits lo hi ordered) in
    exchanged _ (value digits) (value (take lo digits)) (16 ^ lo) (value (digits_of count number)) (value (take count (drop lo digits)))
    number (16 ^ count * value (drop (hi + 1) digits)) new (sym whole ∙ old) (value-digits_of count number small)

spliced-register : (places lo hi number : ℕ) (digits : List ℕ) → IsRegister places digits → lo ≤ hi → hi < places
    → IsRegister places (spliced digits lo hi number)
spliced-register places lo hi number digits register ordered inside =
    let middle = register-digits_of (hi + 1 - lo) number in record {
      size =
          omega (
            arith,
            length-append (take lo digits) (digits_of (hi + 1 - lo) number ++ drop (hi + 1) digits),
            length-append (digits_of (hi + 1 - lo) number) (drop (hi + 1) digits),
            middle.size,
            length-take-le lo digits (omega (arith, register.size)),
            length-drop (hi + 1) digits,
            register.size,
          );
      each =
          All-append (λ digit. digit < 16) _ _ (All-take (λ digit. digit < 16) lo digits register.each)
          (All-append (λ digit. digit < 16) _ _ middle.each (All-drop (λ digit. digit < 16) (hi + 1) digits register.each));
    }

-- The word in which the bits of a number replace some of its own.
pub put_number : (places word new lo hi number : ℕ) (digits : List ℕ) → digits_of places word ≡ digits → word < 16 ^ places → lo ≤ hi
    → hi < places → number < 16 ^ (hi + 1 - lo)
    → new + word / 2 ^ (4 * lo) % 2 ^ (4 * (hi + 1 - lo)) * 2 ^ (4 * lo) ≡ word + number * 2 ^ (4 * lo)
    → (digits_of places new ≡ spliced digits lo hi number) × (new < 16 ^ places)
put_number places word new lo hi number digits seen fits ordered inside small changed =
    let old = is_register places word digits seen fits in
    let count = hi + 1 - lo in
    let at_places : new + word / 16 ^ lo % 16 ^ count * 16 ^ lo ≡ word + number * 16 ^ lo =
    rw (bits_of_places lo, bits_of_places count) at changed in
    let read = part_read places word lo count digits seen (omega arith) in
    let by_list : value (spliced digits lo hi number) + word / 16 ^ lo % 16 ^ count * 16 ^ lo ≡ word + number * 16 ^ lo =
    rw (read, old.1) at (spliced-value digits lo hi number ordered (omega (arith, old.0.size)) small) in
    kept_as places new (spliced digits lo hi number)
    (spliced-register places lo hi number digits old.0 ordered inside) (omega (arith, at_places, by_list))

-- The places of a register into which a number was written.
pub spliced-middle : (digits : List ℕ) (lo hi number : ℕ) → lo ≤ length digits → number < 16 ^ (hi + 1 - lo)
    → value (take (hi + 1 - lo) (drop lo (spliced digits lo hi number))) ≡ number
spliced-middle digits lo hi number inside small =
    let count = hi + 1 - lo in
    ap (λ d. value (take count d))
    (drop_at (take lo digits) (digits_of count number ++ drop (hi + 1) digits) lo (length-take-le lo digits inside))
    ∙ ap value (take_at (digits_of count number) (drop (hi + 1) digits) count (length-digits_of count number))
    ∙ value-digits_of count number small

pub spliced-below : (digits : List ℕ) (lo hi number : ℕ) → lo ≤ length digits → take lo (spliced digits lo hi number) ≡ take lo digits
spliced-below digits lo hi number inside =
    take_at (take lo digits) (digits_of (hi + 1 - lo) number ++ drop (hi + 1) digits) lo (length-take-le lo digits inside)

pub spliced-above : (digits : List ℕ) (lo hi number : ℕ) → lo ≤ hi → lo ≤ length digits
    → drop (hi + 1) (spliced digits lo hi number) ≡ drop (hi + 1) digits
spliced-above digits lo hi number ordered inside =
    let count = hi + 1 - lo in
    ap (drop (hi + 1)) (sym (append_assoc (take lo digits) (digits_of count number) (drop (hi + 1) digits)))
    ∙ drop_at (take lo digits ++ digits_of count number) (drop (hi + 1) digits) (hi + 1)
    (omega (arith, length-append (take lo digits) (digits_of count number), length-digits_of count number, length-take-le lo digits inside))
