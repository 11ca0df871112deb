-- One bit of a register: as the number of the register has it, and as its digit has it.
use Rattle.std.proofs.Common.{◌≡◌, ℕ, zero, suc, ◌+◌, ◌-◌, ◌*◌, ◌/◌, ◌%◌, ◌^◌, ◌<◌, ◌≤◌, Bool, true, false, List, get_or, set, sym, ap, ◌∙◌}
use Rattle.std.proofs.Common.{arith}
use Rattle.std.proofs.Math.Nat.{div-div-eq-div-mul}
use Rattle.std.proofs.lemmas.Nat.{pow-add}
use Rattle.std.specs.Int.RustNames.{bit_and, bit_or}
use Rattle.std.proofs.lemmas.List.Elements.{All-get_or}
use mir.Val.{bool_byte}
use Rattle.h41_digits.specs.Register.{IsRegister, value}
use Rattle.h41_digits.proofs.Packed.{bits_of_places, digits_of-value, get-digits_of, put_in, set-register, value-set}
use Rattle.h41_digits.proofs.Values.{value-below}
use Rattle.h41_ram.specs.RegisterMap.{digit_with, with_bit}

-- Setting a bit adds its weight to a digit in which it is clear.
set_bit_is_digit : (digit k : ℕ) → digit < 16 → k < 4 → digit - digit / 2 ^ k % 2 * 2 ^ k + 2 ^ k < 16
set_bit_is_digit digit zero small four = omega arith
set_bit_is_digit digit (suc zero) small four = omega arith
set_bit_is_digit digit (suc (suc zero)) small four = omega arith
set_bit_is_digit digit (suc (suc (suc zero))) small four = omega arith
set_bit_is_digit digit (suc (suc (suc (suc k)))) small four = absurd (omega arith)

digit_with_is_digit : (digit k : ℕ) (on : Bool) → digit < 16 → k < 4 → digit_with digit (2 ^ k) on < 16
digit_with_is_digit digit k true small four = set_bit_is_digit digit k small four
digit_with_is_digit digit k false small four = omega arith

-- A bit of a digit is one of each number with that digit as its last.
bit_of_last : (n k : ℕ) → k < 4 → n / 2 ^ k % 2 ≡ n % 16 / 2 ^ k % 2
bit_of_last n zero four = omega arith
bit_of_last n (suc zero) four = omega arith
bit_of_last n (suc (suc zero)) four = omega arith
bit_of_last n (suc (suc (suc zero))) four = omega arith
bit_of_last n (suc (suc (suc (suc k)))) four = absurd (omega arith)

-- The weight of a bit in the number of a register.
weight_of_bit : (bit : ℕ) → 2 ^ bit ≡ 16 ^ (bit / 4) * 2 ^ (bit % 4)
weight_of_bit bit =
    ap (λ n. 2 ^ n) (let e : bit ≡ 4 * (bit / 4) + bit % 4 = omega arith in e) ∙ pow-add 2 (4 * (bit / 4)) (bit % 4)
    ∙ ap (λ weight. weight * 2 ^ (bit % 4)) (bits_of_places (bit / 4))

pub bit_read : (digits : List ℕ) (bit : ℕ) → IsRegister 14 digits → bit < 56
    → value digits / 2 ^ bit % 2 ≡ get_or digits (bit / 4) 0 / 2 ^ (bit % 4) % 2
bit_read digits bit register small =
    let word = value digits in
    let place = bit / 4 in
    let k = bit % 4 in
    let digit : get_or digits place 0 ≡ word / 16 ^ place % 16 =
    ap (λ d. get_or d place 0) (sym (digits_of-value 14 digits register)) ∙ get-digits_of 14 word place (omega arith) in
    ap (λ weight. word / weight % 2) (weight_of_bit bit) ∙ ap (λ n. n % 2) (sym (div-div-eq-div-mul word (16 ^ place) (2 ^ k)))
    ∙ bit_of_last (word / 16 ^ place) k (omega arith) ∙ ap (λ d. d / 2 ^ k % 2) (sym digit)

-- A digit with another bit, in terms of the bit that it had.
kept_part : (digit k : ℕ) → k < 4 → digit / 2 ^ k % 2 * 2 ^ k ≤ digit
kept_part digit zero four = omega arith
kept_part digit (suc zero) four = omega arith
kept_part digit (suc (suc zero)) four = omega arith
kept_part digit (suc (suc (suc zero))) four = omega arith
kept_part digit (suc (suc (suc (suc k)))) four = absurd (omega arith)

digit_changed : (digit k : ℕ) (on : Bool) → k < 4 → digit_with digit (2 ^ k) on + digit / 2 ^ k % 2 * 2 ^ k ≡ digit + bool_byte on * 2 ^ k
digit_changed digit k true four = omega (arith, kept_part digit k four)
digit_changed digit k false four = omega (arith, kept_part digit k four)

-- Replacing a bit changes the number and its digit in the same way.
same_change : (new set word digit other was is k weight bit : ℕ) → set + digit * weight ≡ word + other * weight
    → other + was * k ≡ digit + is * k → bit ≡ weight * k → new + was * bit ≡ word + is * bit → set ≡ new
same_change new set word digit other was is k weight bit in_digits in_digit weighs in_word =
    let whole : (other + was * k) * weight ≡ (digit + is * k) * weight = ap (λ n. n * weight) in_digit in
    let changed : new + was * (weight * k) ≡ word + is * (weight * k) = rw weighs at in_word in
    omega (arith, whole, changed, in_digits)

-- The register of a word in which one bit is changed.
bit_changed : (digits : List ℕ) (bit new : ℕ) (on : Bool) → IsRegister 14 digits → bit < 56
    → new + value digits / 2 ^ bit % 2 * 2 ^ bit ≡ value digits + bool_byte on * 2 ^ bit
    → (value (with_bit digits bit on) ≡ new) × IsRegister 14 (with_bit digits bit on)
bit_changed digits bit new on register small changed =
    let place = bit / 4 in
    let k = bit % 4 in
    let digit = get_or digits place 0 in
    let inside : place < 14 = omega arith in
    let is_digit : digit < 16 = All-get_or (λ d. d < 16) digits place 0 (omega (arith, register.size)) register.each in
    let in_digits = value-set digits place (digit_with digit (2 ^ k) on) (omega (arith, register.size)) in
    let in_word : new + digit / 2 ^ k % 2 * 2 ^ bit ≡ value digits + bool_byte on * 2 ^ bit =
    rw (bit_read digits bit register small) at changed in (
      same_change new _ (value digits) digit (digit_with digit (2 ^ k) on) (digit / 2 ^ k % 2) (bool_byte on) (2 ^ k)
          (16 ^ place) (2 ^ bit) in_digits (digit_changed digit k on (omega arith)) (weight_of_bit bit) in_word,
      set-register 14 digits place (digit_with digit (2 ^ k) on) register (digit_with_is_digit digit k on is_digit (omega arith)),
    )

-- A word in which one bit was replaced.
abbrev pub put_bit : ℕ → ℕ → Bool → ℕ
put_bit word bit on = bit_or (bit_and word (2 ^ 64 - 1 - 1 * 2 ^ bit % 2 ^ 64)) (bool_byte on * 2 ^ bit % 2 ^ 64)

bool_byte-lt : (on : Bool) → bool_byte on < 2
bool_byte-lt true = omega arith
bool_byte-lt false = omega arith

fits_word : (digits : List ℕ) → IsRegister 14 digits → value digits < 2 ^ 64
fits_word digits register =
    let small : value digits < 16 ^ 14 = rw register.size at (value-below digits register.each) in
    omega arith

pub bit_written : (digits : List ℕ) (bit : ℕ) (on : Bool) → IsRegister 14 digits → bit < 56
    → (value (with_bit digits bit on) ≡ put_bit (value digits) bit on) × IsRegister 14 (with_bit digits bit on)
bit_written digits bit on register small =
    bit_changed digits bit (put_bit (value digits) bit on) on register small
    (put_in (value digits) bit 1 (bool_byte on) (fits_word digits register) (omega arith) (bool_byte-lt on))

pub put_bit-lt : (digits : List ℕ) (bit : ℕ) (on : Bool) → IsRegister 14 digits → bit < 56 → put_bit (value digits) bit on < 16 ^ 14
put_bit-lt digits bit on register small =
    let written = bit_written digits bit on register small in
    let below : value (with_bit digits bit on) < 16 ^ 14 = rw written.1.size at (value-below (with_bit digits bit on) written.1.each) in
    rw written.0 at below
