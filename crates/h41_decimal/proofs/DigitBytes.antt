-- Ten digits at once, two in a byte: their halves, and a test of all.
use Rattle.std.proofs.Common.{◌≡◌, ℕ, zero, suc, ◌+◌, ◌*◌, ◌/◌, ◌%◌, ◌^◌, ◌<◌, ◌≤◌, ⊎_elim, Some, None, refl, ap, ◌∙◌, arith}
use Rattle.std.proofs.lemmas.Bool.{cases_lt}
use Rattle.std.proofs.lemmas.Nat.{and_block, and_le_r, and_mask}
use Rattle.std.proofs.lemmas.Nat.Bits.{and_pow}
use Rattle.std.specs.Int.RustNames.{bit_and}
use Rattle.h41_decimal.specs.private.PackedDigits.{decimal_of, hundreds_of}
use Rattle.h41_decimal.proofs.PackedDigits.{digit_more, no_digit, no_digit_behind}

-- One byte, repeated a number of times.
abbrev pub repeated : ℕ → ℕ → ℕ
repeated byte zero = 0
repeated byte (suc count) = byte + 256 * repeated byte count

masked_more : (first others byte count : ℕ) → first < 256 → byte < 256
    → bit_and (first + 256 * others) (byte + 256 * repeated byte count) ≡ bit_and first byte + 256 * bit_and others (repeated byte count)
masked_more first others byte count small fits =
    let turned : first + 256 * others ≡ others * 2 ^ 8 + first = omega arith in
    let mask_turned : byte + 256 * repeated byte count ≡ repeated byte count * 2 ^ 8 + byte = omega arith in
    ap (λ n. bit_and n (byte + 256 * repeated byte count)) turned ∙ ap (bit_and (others * 2 ^ 8 + first)) mask_turned
    ∙ and_block 8 others (repeated byte count) first byte small fits ∙ omega arith

-- The lower halves of a number of bytes.
abbrev pub halves : ℕ → ℕ → ℕ
halves zero bytes = 0
halves (suc count) bytes = bytes % 16 + 256 * halves count (bytes / 256)

pub halves_read : (count bytes : ℕ) → bit_and bytes (repeated 15 count) ≡ halves count bytes
halves_read zero bytes = omega (arith, and_le_r bytes 0)
halves_read (suc count) bytes =
    let split : bytes ≡ bytes % 256 + 256 * (bytes / 256) = omega arith in
    let low : bit_and (bytes % 256) 15 ≡ bytes % 256 % 16 = and_mask (bytes % 256) 4 in
    ap (λ n. bit_and n (repeated 15 (suc count))) split ∙ masked_more (bytes % 256) (bytes / 256) 15 count (omega arith) (omega arith)
    ∙ omega (arith, low, halves_read count (bytes / 256))

-- Sixteen for each half above 9.
abbrev pub sixteens : ℕ → ℕ → ℕ
sixteens count bytes = bit_and (halves count bytes + repeated 6 count) (repeated 16 count)

sixteens_more : (count bytes : ℕ) → sixteens (suc count) bytes ≡ (bytes % 16 + 6) / 16 * 16 + 256 * sixteens count (bytes / 256)
sixteens_more count bytes =
    let first = bytes % 16 + 6 in
    let others = halves count (bytes / 256) + repeated 6 count in
    let sum : halves (suc count) bytes + repeated 6 (suc count) ≡ first + 256 * others = omega arith in
    let low : bit_and first 16 ≡ first / 16 % 2 * 16 = and_pow first 4 in
    ap (λ n. bit_and n (repeated 16 (suc count))) sum ∙ masked_more first others 16 count (omega arith) (omega arith) ∙ omega (arith, low)

-- Two digits in each of a number of bytes.
abbrev pub twice : ℕ → ℕ
twice zero = 0
twice (suc count) = suc (suc (twice count))

hundreds_more : (count first others bytes : ℕ) → first < 256 → bytes ≡ first + 256 * others
    → hundreds_of (suc count) bytes ≡ first + 100 * hundreds_of count others
hundreds_more count first others bytes small is =
    let low : bytes % 256 ≡ first = omega arith in
    let high : bytes / 256 ≡ others = omega arith in
    omega (arith, low, ap (hundreds_of count) high)

pub all_decimal : (count digits : ℕ) → sixteens count digits ≡ 0 → sixteens count (digits / 16) ≡ 0
    → decimal_of (twice count) digits ≡ Some (hundreds_of count (halves count digits + 10 * halves count (digits / 16)))
all_decimal zero digits low high = refl
all_decimal (suc count) digits low high =
    let a = sixteens_more count digits in
    let b = sixteens_more count (digits / 16) in
    let first : digits % 16 ≤ 9 = omega (arith, a) in
    let second : digits / 16 % 16 ≤ 9 = omega (arith, b) in
    let rest : digits / 16 / 16 ≡ digits / 256 = omega arith in
    let turned : digits / 16 / 256 ≡ digits / 256 / 16 = omega arith in
    let rest_low : sixteens count (digits / 256) ≡ 0 = omega (arith, a) in
    let rest_high : sixteens count (digits / 256 / 16) ≡ 0 = omega (arith, b, ap (sixteens count) turned) in
    let bytes = halves count (digits / 256) + 10 * halves count (digits / 256 / 16) in
    let others : decimal_of (twice count) (digits / 16 / 16) ≡ Some (hundreds_of count bytes) =
    ap (decimal_of (twice count)) rest ∙ all_decimal count (digits / 256) rest_low rest_high in
    let pair = digits % 16 + 10 * (digits / 16 % 16) in
    let sum : halves (suc count) digits + 10 * halves (suc count) (digits / 16) ≡ pair + 256 * bytes =
    omega (arith, ap (halves count) turned) in
    let whole = hundreds_more count pair bytes (halves (suc count) digits + 10 * halves (suc count) (digits / 16)) (omega arith) sum in
    digit_more (suc (twice count)) digits (Some (digits / 16 % 16 + 10 * hundreds_of count bytes)) first
    (digit_more (twice count) (digits / 16) (Some (hundreds_of count bytes)) second others)
    ∙ ap Some (let e : digits % 16 + 10 * (digits / 16 % 16 + 10 * hundreds_of count bytes)
    ≡ hundreds_of (suc count) (halves (suc count) digits + 10 * halves (suc count) (digits / 16)) = omega (arith, whole) in e)

pub one_not_decimal : (count digits : ℕ) → 0 < sixteens count digits + sixteens count (digits / 16) → decimal_of (twice count) digits ≡ None
one_not_decimal zero digits some = absurd (omega (arith, and_le_r 0 0))
one_not_decimal (suc count) digits some =
    let a = sixteens_more count digits in
    let b = sixteens_more count (digits / 16) in
    let rest : digits / 16 / 16 ≡ digits / 256 = omega arith in
    let turned : digits / 16 / 256 ≡ digits / 256 / 16 = omega arith in
    ⊎_elim
    (λ (first : 9 < digits % 16). no_digit (suc (twice count)) digits first)
    (λ (small : digits % 16 ≤ 9).
    no_digit_behind (suc (twice count)) digits
    (⊎_elim
    (λ (second : 9 < digits / 16 % 16). no_digit (twice count) (digits / 16) second)
    (λ (small_too : digits / 16 % 16 ≤ 9).
    let others : 0 < sixteens count (digits / 256) + sixteens count (digits / 256 / 16) = omega (arith, a, b, ap (sixteens count) turned) in
    no_digit_behind (twice count) (digits / 16) (ap (decimal_of (twice count)) rest ∙ one_not_decimal count (digits / 256) others))
    (cases_lt 9 (digits / 16 % 16))))
    (cases_lt 9 (digits % 16))

-- The test of the lower half of five bytes.
pub tested : (bytes : ℕ) → bit_and (bit_and bytes 64677154575 + 25870861830) 68988964880 ≡ sixteens 5 bytes
tested bytes = ap (λ n. bit_and (n + repeated 6 5) (repeated 16 5)) (halves_read 5 bytes)
