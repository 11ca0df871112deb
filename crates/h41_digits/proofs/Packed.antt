-- A register is stored as its number: the digits of a number, and the effect of masks and shifts on them.
use Rattle.std.proofs.Common.{◌≡◌, ℕ, suc, zero, ◌+◌, ◌-◌, ◌*◌, ◌/◌, ◌%◌, ◌^◌, ◌<◌, ◌≤◌, List, [], ◌∷◌, length, set, get_or, replicate}
use Rattle.std.proofs.Common.{refl, sym, ap, subst, arith, ◌∙◌, ◌≢◌, length-set, get_or-set_other, mul_comm, drop, ◌++◌, Bool, true, eqb}
use Rattle.std.specs.Fmt.{digit_glyph}
use Rattle.std.proofs.lemmas.List.{drop_more, drop_all}
use Rattle.std.proofs.Math.Nat.{mod-eq_of_lt, div-eq_of_lt, lt-div-mul-add, zero-mul, zero-add, pow-succ', div-div-eq-div-mul}
use Rattle.std.proofs.Math.Nat.{pow-le-pow_right}
use Rattle.std.proofs.lemmas.Nat.{and_mask, pow-add, pow_pos, shl-shr, shl_whole, and_comm, and_assoc, and_le_l, and-not, or_disjoint}
use Rattle.std.proofs.lemmas.Nat.Bits.{and_high}
use Rattle.std.proofs.lemmas.Grind.{and-not_self}
use Rattle.std.specs.Int.RustNames.{bit_and, bit_or}
use Rattle.std.specs.List.{AllByRecursion}
use Rattle.std.proofs.lemmas.List.Elements.{recursion_from_All, All-from_recursion, All-set}
use Rattle.h41_digits.specs.Register.{IsRegister, value, text, byte_at, set_byte}
use Rattle.h41_digits.specs.Packed.{digits_of, pow-next, value-digits_of, value-cons}
use Rattle.h41_digits.proofs.Values.{value-below, text-snoc}

-- A place is four bits wide.
pub bits_of_places : (places : ℕ) → 2 ^ (4 * places) ≡ 16 ^ places
bits_of_places zero = refl
bits_of_places (suc places) =
    ap (λ bits. 2 ^ bits) (omega arith) ∙ pow-add 2 4 (4 * places) ∙ ap (λ weight. 16 * weight) (bits_of_places places)
    ∙ sym (pow-succ' 16 places)

pub weight_positive : (place : ℕ) → 0 < 16 ^ place
weight_positive place = rw (← bits_of_places place) (pow_pos (4 * place))

pub length-digits_of : (places number : ℕ) → length (digits_of places number) ≡ places
length-digits_of zero number = refl
length-digits_of (suc places) number = ap suc (length-digits_of places (number / 16))

each-digits_of : (places number : ℕ) → AllByRecursion (λ digit. digit < 16) (digits_of places number)
each-digits_of zero number = tt
each-digits_of (suc places) number = (omega arith, each-digits_of places (number / 16))

-- A register has the digits of the number that it holds.
digits_of-value_each : (digits : List ℕ) → AllByRecursion (λ digit. digit < 16) digits → digits_of (length digits) (value digits) ≡ digits
digits_of-value_each [] each = refl
digits_of-value_each (digit ∷ digits) each =
    let low : value (digit ∷ digits) % 16 ≡ digit = omega (arith, value-cons digit digits, each.0) in
    let high : value (digit ∷ digits) / 16 ≡ value digits = omega (arith, value-cons digit digits, each.0) in
    rw (low, high, digits_of-value_each digits each.1) refl

pub digits_of-value : (places : ℕ) (digits : List ℕ) → IsRegister places digits → digits_of places (value digits) ≡ digits
digits_of-value places digits register =
    ap (λ count. digits_of count (value digits)) (sym register.size)
    ∙ digits_of-value_each digits (recursion_from_All _ digits register.each)

pub digits_of-zero : (places : ℕ) → digits_of places 0 ≡ replicate places 0
digits_of-zero zero = refl
digits_of-zero (suc places) = ap (λ digits. 0 ∷ digits) (digits_of-zero places)

pub get-digits_of : (places number place : ℕ) → place < places → get_or (digits_of places number) place 0 ≡ number / 16 ^ place % 16
get-digits_of zero number place inside = absurd (omega (arith, inside))
get-digits_of (suc places) number zero inside = omega arith
get-digits_of (suc places) number (suc place) inside =
    get-digits_of places (number / 16) place (omega (arith, inside))
    ∙ ap (λ rest. rest % 16) (div-div-eq-div-mul number 16 (16 ^ place) ∙ ap (λ weight. number / weight) (sym (pow-succ' 16 place)))

-- The digits of any number are a register.
pub register-digits_of : (places number : ℕ) → IsRegister places (digits_of places number)
register-digits_of places number =
    record { size = length-digits_of places number; each = All-from_recursion _ _ (each-digits_of places number) }

-- The stored word determines a register, and is the number of its digits.
pub is_register : (places word : ℕ) (digits : List ℕ) → digits_of places word ≡ digits → word < 16 ^ places
    → IsRegister places digits × (value digits ≡ word)
is_register places word digits seen fits =
    (subst (IsRegister places) seen (register-digits_of places word), ap value (sym seen) ∙ value-digits_of places word fits)

-- The number of a register after the digit at one place was replaced.
pub value-set : (digits : List ℕ) (place digit : ℕ) → place < length digits
    → value (set digits place digit) + get_or digits place 0 * 16 ^ place ≡ value digits + digit * 16 ^ place
value-set [] place digit inside = absurd (omega (arith, inside))
value-set (first ∷ digits) zero digit inside = rw (value-cons digit digits, value-cons first digits) (omega arith)
value-set (first ∷ digits) (suc place) digit inside =
    let below = value-set digits place digit (omega (arith, inside)) in
    rw (value-cons first (set digits place digit), value-cons first digits, pow-succ' 16 place) (omega (arith, below))

pub set-register : (places : ℕ) (digits : List ℕ) (place digit : ℕ) → IsRegister places digits → digit < 16
    → IsRegister places (set digits place digit)
set-register places digits place digit register small = record {
  size = length-set digits place digit ∙ register.size;
  each = All-set (λ digit. digit < 16) digits place digit small register.each;
}

-- A word that is the number of a register stores the digits of this register.
pub kept_as : (places word : ℕ) (digits : List ℕ) → IsRegister places digits → value digits ≡ word
    → (digits_of places word ≡ digits) × (word < 16 ^ places)
kept_as places word digits register held = (
  ap (digits_of places) (sym held) ∙ digits_of-value places digits register,
  omega (arith, rw register.size at (value-below digits register.each)),
)

-- The bits of a mask, and the bits of a word outside the mask.
mul_one_more : (a b : ℕ) → a * b + b ≡ (a + 1) * b
mul_one_more a b = omega arith

mask_at : (width at : ℕ) → width + at ≤ 64 → (2 ^ width - 1) * 2 ^ at % 2 ^ 64 ≡ 2 ^ (width + at) - 2 ^ at
mask_at width at inside =
    let ones : (2 ^ width - 1) + 1 ≡ 2 ^ width = omega (arith, pow_pos width) in
    let whole : (2 ^ width - 1) * 2 ^ at + 2 ^ at ≡ 2 ^ (width + at) =
    mul_one_more (2 ^ width - 1) (2 ^ at) ∙ ap (λ n. n * 2 ^ at) ones ∙ sym (pow-add 2 width at) in
    shl_whole (2 ^ width - 1) width at 64 (omega arith) inside ∙ omega (arith, whole)

pub mask-lt : (width at : ℕ) → width + at ≤ 64 → 2 ^ (width + at) - 2 ^ at < 2 ^ 64
mask-lt width at inside = omega (arith, pow-le-pow_right {n = 2} (omega arith) {i = width + at} {j = 64} inside, pow_pos at)

pub apart_from_mask : (word mask bits : ℕ) → mask < 2 ^ 64 → bit_and bits mask ≡ bits → bit_and (bit_and word (2 ^ 64 - 1 - mask)) bits ≡ 0
apart_from_mask word mask bits fits own =
    let kept = bit_and word (2 ^ 64 - 1 - mask) in
    let cleared : bit_and kept mask ≡ 0 = and-not_self word (2 ^ 64 - 1) mask mask refl (omega arith) refl in
    ap (bit_and kept) (sym own ∙ and_comm bits mask) ∙ sym (and_assoc bits kept mask) ∙ ap (λ n. bit_and n bits) cleared
    ∙ omega (arith, and_le_l 0 bits)

-- The bits that remain and the bits that are inserted make up the new word.
pub three_parts : (joined kept moved covered word : ℕ) → joined ≡ kept + moved → kept + covered ≡ word → joined + covered ≡ word + moved
three_parts joined kept moved covered word e parts = omega arith

-- The word after some of its bits were replaced.
pub put_in : (word at width bits : ℕ) → word < 2 ^ 64 → width + at ≤ 64 → bits < 2 ^ width
    → bit_or (bit_and word (2 ^ 64 - 1 - (2 ^ width - 1) * 2 ^ at % 2 ^ 64)) (bits * 2 ^ at % 2 ^ 64) + word / 2 ^ at % 2 ^ width * 2 ^ at
    ≡ word + bits * 2 ^ at
put_in word at width bits fits inside small =
    let mask = 2 ^ (width + at) - 2 ^ at in
    let kept = bit_and word (2 ^ 64 - 1 - mask) in
    let moved = bits * 2 ^ at in
    let is_kept : bit_and word (2 ^ 64 - 1 - (2 ^ width - 1) * 2 ^ at % 2 ^ 64) ≡ kept =
    ap (λ m. bit_and word (2 ^ 64 - 1 - m)) (mask_at width at inside) in
    let is_moved : bits * 2 ^ at % 2 ^ 64 ≡ moved = shl_whole bits width at 64 small inside in
    let own : bit_and moved mask ≡ moved =
    and_high moved width at ∙ ap (λ n. n * 2 ^ at) (ap (λ n. n % 2 ^ width) (shl-shr bits at) ∙ mod-eq_of_lt small) in
    let sum : bit_or kept moved ≡ kept + moved = or_disjoint kept moved (apart_from_mask word mask moved (mask-lt width at inside) own) in
    let covered : bit_and word mask ≡ word / 2 ^ at % 2 ^ width * 2 ^ at = and_high word width at in
    let parts : bit_and (2 ^ 64 - 1 - mask) word + bit_and mask word ≡ word = and-not 64 mask word (mask-lt width at inside) fits in
    let turned = and_comm (2 ^ 64 - 1 - mask) word in
    let turned_mask = and_comm mask word in
    let joined : bit_or (bit_and word (2 ^ 64 - 1 - (2 ^ width - 1) * 2 ^ at % 2 ^ 64)) (bits * 2 ^ at % 2 ^ 64) ≡ kept + moved =
    ap (λ n. bit_or n (bits * 2 ^ at % 2 ^ 64)) is_kept ∙ ap (bit_or kept) is_moved ∙ sum in
    let all : kept + word / 2 ^ at % 2 ^ width * 2 ^ at ≡ word =
    ap (λ n. n + word / 2 ^ at % 2 ^ width * 2 ^ at) (sym turned)
    ∙ ap (λ n. bit_and (2 ^ 64 - 1 - mask) word + n) (sym covered ∙ sym turned_mask) ∙ parts in
    three_parts _ kept moved _ word joined all

-- A byte is two places wide.
pub bits_of_bytes : (k : ℕ) → 2 ^ (8 * k) ≡ 16 ^ (2 * k)
bits_of_bytes k = ap (λ bits. 2 ^ bits) (omega arith) ∙ bits_of_places (2 * k)

-- A shift and a mask read the digit at a place, and a byte of two digits.
pub digit_read : (places word place : ℕ) (digits : List ℕ) → digits_of places word ≡ digits → place < places
    → bit_and (word / 2 ^ (4 * place)) 15 ≡ get_or digits place 0
digit_read places word place digits seen inside =
    and_mask (word / 2 ^ (4 * place)) 4 ∙ ap (λ weight. word / weight % 16) (bits_of_places place)
    ∙ sym (get-digits_of places word place inside) ∙ ap (λ d. get_or d place 0) seen

-- A byte has two digits.
halves : (q high low : ℕ) → high ≡ q / 16 % 16 → low ≡ q % 16 → q % 256 ≡ high * 16 + low
halves q high low is_high is_low = omega arith

next_place : (word place : ℕ) → word / 16 ^ (place + 1) ≡ word / 16 ^ place / 16
next_place word place =
    ap (λ weight. word / weight) (pow-next place ∙ mul_comm 16 (16 ^ place)) ∙ sym (div-div-eq-div-mul word (16 ^ place) 16)

high_half : (places word k : ℕ) (digits : List ℕ) → digits_of places word ≡ digits → 2 * k + 1 < places
    → get_or digits (2 * k + 1) 0 ≡ word / 16 ^ (2 * k) / 16 % 16
high_half places word k digits seen inside =
    ap (λ d. get_or d (2 * k + 1) 0) (sym seen) ∙ get-digits_of places word (2 * k + 1) inside
    ∙ ap (λ rest. rest % 16) (next_place word (2 * k))

low_half : (places word k : ℕ) (digits : List ℕ) → digits_of places word ≡ digits → 2 * k + 1 < places
    → get_or digits (2 * k) 0 ≡ word / 16 ^ (2 * k) % 16
low_half places word k digits seen inside =
    ap (λ d. get_or d (2 * k) 0) (sym seen) ∙ get-digits_of places word (2 * k) (omega (arith, inside))

pub byte_shifted : (places word k : ℕ) (digits : List ℕ) → digits_of places word ≡ digits → 2 * k + 1 < places
    → word / 2 ^ (8 * k) % 256 ≡ byte_at digits k
byte_shifted places word k digits seen inside =
    ap (λ weight. word / weight % 256) (bits_of_bytes k)
    ∙ halves (word / 16 ^ (2 * k)) _ _ (high_half places word k digits seen inside) (low_half places word k digits seen inside)

pub byte_read : (places word k : ℕ) (digits : List ℕ) → digits_of places word ≡ digits → 2 * k + 1 < places
    → bit_and (word / 2 ^ (8 * k)) 255 ≡ byte_at digits k
byte_read places word k digits seen inside = and_mask (word / 2 ^ (8 * k)) 8 ∙ byte_shifted places word k digits seen inside

-- A word stores the register in which a digit, or a byte, was replaced.
pub put_digit : (places word new place digit : ℕ) (digits : List ℕ) → digits_of places word ≡ digits → word < 16 ^ places → place < places
    → digit < 16 → new + word / 2 ^ (4 * place) % 16 * 2 ^ (4 * place) ≡ word + digit * 2 ^ (4 * place)
    → (digits_of places new ≡ set digits place digit) × (new < 16 ^ places)
put_digit places word new place digit digits seen fits inside small changed =
    let old = is_register places word digits seen fits in
    let read : get_or digits place 0 ≡ word / 16 ^ place % 16 =
    ap (λ d. get_or d place 0) (sym seen) ∙ get-digits_of places word place inside in
    let at_place : new + word / 16 ^ place % 16 * 16 ^ place ≡ word + digit * 16 ^ place = rw bits_of_places at changed in
    let by_list : value (set digits place digit) + word / 16 ^ place % 16 * 16 ^ place ≡ word + digit * 16 ^ place =
    rw (read, old.1) at (value-set digits place digit (omega (arith, inside, old.0.size))) in
    kept_as places new (set digits place digit) (set-register places digits place digit old.0 small) (omega (arith, at_place, by_list))

-- Replacing both digits of a byte replaces the byte.
both_halves : (v w1 old_high old_low high low weight word new covered byte : ℕ) → w1 + old_low * weight ≡ word + low * weight
    → v + old_high * (16 * weight) ≡ w1 + high * (16 * weight) → covered ≡ old_high * 16 + old_low → byte ≡ high * 16 + low
    → new + covered * weight ≡ word + byte * weight → v ≡ new
both_halves v w1 old_high old_low high low weight word new covered byte first second is_covered is_byte changed =
    let whole : new + (old_high * 16 + old_low) * weight ≡ word + (high * 16 + low) * weight = rw (is_covered, is_byte) at changed in
    omega (arith, whole, first, second)

pub set_byte-register : (places : ℕ) (digits : List ℕ) (k byte : ℕ) → IsRegister places digits → byte < 256
    → IsRegister places (set_byte digits k byte)
set_byte-register places digits k byte register small =
    set-register places (set digits (2 * k) (byte % 16)) (2 * k + 1) (byte / 16)
    (set-register places digits (2 * k) (byte % 16) register (omega arith)) (omega arith)

pub put_byte : (places word new k byte : ℕ) (digits : List ℕ) → digits_of places word ≡ digits → word < 16 ^ places → 2 * k + 1 < places
    → byte < 256 → new + word / 2 ^ (8 * k) % 256 * 2 ^ (8 * k) ≡ word + byte * 2 ^ (8 * k)
    → (digits_of places new ≡ set_byte digits k byte) × (new < 16 ^ places)
put_byte places word new k byte digits seen fits inside small changed =
    let old = is_register places word digits seen fits in
    let weight = 16 ^ (2 * k) in
    let low = set digits (2 * k) (byte % 16) in
    let other : 2 * k + 1 ≢ 2 * k = omega arith in
    let at_place : new + word / weight % 256 * weight ≡ word + byte * weight = rw bits_of_bytes at changed in
    let covered : word / weight % 256 ≡ get_or digits (2 * k + 1) 0 * 16 + get_or digits (2 * k) 0 =
    halves (word / weight) _ _ (high_half places word k digits seen inside) (low_half places word k digits seen inside) in
    let first : value low + get_or digits (2 * k) 0 * weight ≡ word + byte % 16 * weight =
    rw old.1 at (value-set digits (2 * k) (byte % 16) (omega (arith, inside, old.0.size))) in
    let second : value (set_byte digits k byte) + get_or digits (2 * k + 1) 0 * (16 * weight) ≡ value low + byte / 16 * (16 * weight) =
    rw (pow-next (2 * k), get_or-set_other digits (2 * k) (2 * k + 1) (byte % 16) 0 other) at
    (value-set low (2 * k + 1) (byte / 16) (omega (arith, inside, old.0.size, length-set digits (2 * k) (byte % 16)))) in
    kept_as places new (set_byte digits k byte) (set_byte-register places digits k byte old.0 small)
    (both_halves (value (set_byte digits k byte)) (value low) _ _ (byte / 16) (byte % 16)
    weight word new (word / weight % 256) byte first second covered (omega arith) at_place)

-- The test that a number fits into the places.
pub fits_from_shift : (places number : ℕ) → number / 2 ^ (4 * places) ≡ 0 → number < 16 ^ places
fits_from_shift places number high =
    let weight = 16 ^ places in
    let none : number / weight ≡ 0 = rw bits_of_places at high in
    let above : number < number / weight * weight + weight = lt-div-mul-add (weight_positive places) in
    rw (none, zero-mul, zero-add) at above

pub shift_from_fits : (places number : ℕ) → number < 16 ^ places → number / 2 ^ (4 * places) ≡ 0
shift_from_fits places number small = rw bits_of_places (div-eq_of_lt small)

-- The digit at a place follows the text of the digits above it.
pub text-from : (places word place next : ℕ) (digits : List ℕ) → digits_of places word ≡ digits → word < 16 ^ places → place + 1 ≡ next
    → next ≤ places → text (drop next digits) ++ digit_glyph true (bit_and (word / 2 ^ (4 * place)) 15) ∷ [] ≡ text (drop place digits)
text-from places word place next digits seen fits above inside =
    let digit = bit_and (word / 2 ^ (4 * place)) 15 in
    let own : get_or digits place 0 ≡ digit = sym (digit_read places word place digits seen (omega (arith, inside, above))) in
    let size = (is_register places word digits seen fits).0.size in
    let stands : drop place digits ≡ digit ∷ drop next digits =
    drop_more digits place 0 (omega (arith, inside, size, above)) ∙ ap (λ d. d ∷ drop (place + 1) digits) own
    ∙ ap (λ n. digit ∷ drop n digits) above in
    sym (ap text stands ∙ text-snoc digit (drop next digits))

pub text-past : (places word : ℕ) (digits : List ℕ) → digits_of places word ≡ digits → word < 16 ^ places → text (drop places digits) ≡ []
text-past places word digits seen fits =
    let size = (is_register places word digits seen fits).0.size in
    ap text (drop_all places digits (omega (arith, size)))

-- Two registers are equal exactly if their stored words are.
pub same_kept : (places w v : ℕ) (x y : List ℕ) (answer : Bool) → digits_of places w ≡ x → w < 16 ^ places → digits_of places v ≡ y
    → v < 16 ^ places → answer ≡ eqb w v → answer ≡ eqb (value x) (value y)
same_kept places w v x y answer seen_x fits_x seen_y fits_y told =
    rw ((is_register places w x seen_x fits_x).1, (is_register places v y seen_y fits_y).1) told
