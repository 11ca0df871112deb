-- A span's mask selects the digits of its places in a word, and lets the digits of another word replace them.
use Rattle.std.proofs.Common.{◌≡◌, ℕ, zero, suc, refl, inl, inr, ◌+◌, ◌-◌, ◌*◌, ◌/◌, ◌%◌, ◌^◌, ◌<◌, ◌≤◌, List, sym, ap, arith, ◌∙◌}
use Rattle.std.proofs.lemmas.Bool.{cases_lt}
use Rattle.std.proofs.Math.Nat.{mod-eq_of_lt, pow-le-pow_right, pow-succ', mul-div_cancel, mul-add-mod_self_right, mul-le-mul_right}
use Rattle.std.proofs.Math.Nat.{mul_assoc}
use Rattle.std.proofs.lemmas.Nat.{and_comm, and_assoc, and_le_l, and_block, pow_pos, and-not, or_disjoint, one_shl, pow-add}
use Rattle.std.specs.Int.Bits.{and_self}
use Rattle.std.proofs.lemmas.Nat.Bits.{and_high}
use Rattle.std.specs.Int.RustNames.{bit_and, bit_or}
use Rattle.h41_digits.specs.Register.{value_between}
use Rattle.h41_digits.specs.Spans.{in_places}
use Rattle.h41_digits.specs.Packed.{digits_of}
use Rattle.h41_digits.proofs.Packed.{bits_of_places, weight_positive, mask-lt, apart_from_mask, three_parts}
use Rattle.h41_digits.proofs.Parts.{part_read, put_number, spliced}

-- A mask has consecutive bits, beginning with that of the first place.
pub mask_bits : (lo hi mask : ℕ) → lo ≤ hi → mask + 16 ^ lo ≡ 16 ^ (hi + 1) → mask ≡ 2 ^ (4 * (hi + 1 - lo) + 4 * lo) - 2 ^ (4 * lo)
mask_bits lo hi mask ordered is_mask =
    let top : 2 ^ (4 * (hi + 1 - lo) + 4 * lo) ≡ 16 ^ (hi + 1) = ap (λ bits. 2 ^ bits) (omega arith) ∙ bits_of_places (hi + 1) in
    omega (arith, top, bits_of_places lo)

-- The bits of a word that a mask selects.
masked : (word lo hi mask : ℕ) → lo ≤ hi → mask + 16 ^ lo ≡ 16 ^ (hi + 1) → bit_and word mask ≡ in_places word lo hi * 2 ^ (4 * lo)
masked word lo hi mask ordered is_mask =
    ap (bit_and word) (mask_bits lo hi mask ordered is_mask) ∙ and_high word (4 * (hi + 1 - lo)) (4 * lo)
    ∙ ap (λ weight. word / weight % 2 ^ (4 * (hi + 1 - lo)) * 2 ^ (4 * lo)) (bits_of_places lo)
    ∙ ap (λ weight. word / 16 ^ lo % weight * 2 ^ (4 * lo)) (bits_of_places (hi + 1 - lo))

pub span_read : (places word lo hi mask : ℕ) (digits : List ℕ) → digits_of places word ≡ digits → lo ≤ hi → hi < places
    → mask + 16 ^ lo ≡ 16 ^ (hi + 1) → bit_and word mask ≡ value_between digits lo hi * 16 ^ lo
span_read places word lo hi mask digits seen ordered inside is_mask =
    masked word lo hi mask ordered is_mask ∙ ap (λ weight. in_places word lo hi * weight) (bits_of_places lo)
    ∙ ap (λ n. n * 16 ^ lo) (sym (part_read places word lo (hi + 1 - lo) digits seen (omega arith)))

pub in_places-lt : (word lo hi : ℕ) → in_places word lo hi < 16 ^ (hi + 1 - lo)
in_places-lt word lo hi = omega (arith, weight_positive (hi + 1 - lo))

-- The word in which the digits of another word were inserted.
replaced_bits : (word bits lo hi mask : ℕ) → word < 2 ^ 64 → lo ≤ hi → hi < 14 → mask + 16 ^ lo ≡ 16 ^ (hi + 1)
    → bit_or (bit_and word (2 ^ 64 - 1 - mask)) (bit_and bits mask) + word / 2 ^ (4 * lo) % 2 ^ (4 * (hi + 1 - lo)) * 2 ^ (4 * lo)
    ≡ word + in_places bits lo hi * 2 ^ (4 * lo)
replaced_bits word bits lo hi mask fits ordered inside is_mask =
    let width = 4 * (hi + 1 - lo) in
    let at = 4 * lo in
    let is = mask_bits lo hi mask ordered is_mask in
    let small : mask < 2 ^ 64 = omega (arith, is, mask-lt width at (omega arith)) in
    let kept = bit_and word (2 ^ 64 - 1 - mask) in
    let moved = bit_and bits mask in
    let own : bit_and moved mask ≡ moved = masked_twice bits mask in
    let sum : bit_or kept moved ≡ kept + moved = or_disjoint kept moved (apart_from_mask word mask moved small own) in
    let covered : bit_and word mask ≡ word / 2 ^ at % 2 ^ width * 2 ^ at = ap (bit_and word) is ∙ and_high word width at in
    let parts : bit_and (2 ^ 64 - 1 - mask) word + bit_and mask word ≡ word = and-not 64 mask word small fits in
    let all : kept + word / 2 ^ at % 2 ^ width * 2 ^ at ≡ word =
    omega (arith, parts, covered, and_comm (2 ^ 64 - 1 - mask) word, and_comm mask word) in
    three_parts _ kept moved _ word sum all ∙ ap (λ n. word + n) (masked bits lo hi mask ordered is_mask)
  where
    masked_twice : (bits mask : ℕ) → bit_and (bit_and bits mask) mask ≡ bit_and bits mask
    masked_twice bits mask = and_assoc mask bits mask ∙ ap (bit_and bits) (and_self mask)

pub put_span : (places word bits lo hi mask : ℕ) (digits : List ℕ) → digits_of places word ≡ digits → word < 16 ^ places → places ≤ 14
    → lo ≤ hi → hi < places → mask + 16 ^ lo ≡ 16 ^ (hi + 1)
    → (digits_of places (bit_or (bit_and word (2 ^ 64 - 1 - mask)) (bit_and bits mask)) ≡ spliced digits lo hi (in_places bits lo hi))
    × (bit_or (bit_and word (2 ^ 64 - 1 - mask)) (bit_and bits mask) < 16 ^ places)
put_span places word bits lo hi mask digits seen fits few ordered inside is_mask =
    put_number places word _ lo hi (in_places bits lo hi) digits seen fits ordered inside (in_places-lt bits lo hi)
    (replaced_bits word bits lo hi mask (omega (arith, fits, pow-le-pow_right {n = 16} (omega arith) {i = places} {j = 14} few))
    ordered (omega arith) is_mask)

-- The two words that make the mask of a new span: the weight of the first place, and the weight of the place after the last.
pub shifted_places : (places : ℕ) → places < 16 → 1 * 2 ^ (4 * places) % 2 ^ 64 ≡ 16 ^ places
shifted_places places few = one_shl (4 * places) 64 (omega arith) ∙ bits_of_places places

pub places-le : (lo hi : ℕ) → lo ≤ hi → 16 ^ lo ≤ 16 ^ (hi + 1)
places-le lo hi ordered = pow-le-pow_right {n = 16} (omega arith) {i = lo} {j = hi + 1} (omega arith)

-- The lowest bit of a mask.
lowest : (t a b : ℕ) → 1 < a → 0 < b → (t * a + 1) * b / b % a * b ≡ b
lowest t a b more positive =
    ap (λ n. n % a * b) (mul-div_cancel (t * a + 1) positive) ∙ ap (λ n. n * b) (mul-add-mod_self_right t a 1 ∙ mod-eq_of_lt more)
    ∙ omega arith

negated : (t a b mask negative whole : ℕ) → mask + b ≡ a * b → whole ≡ (t + 1) * (a * b) → negative + mask ≡ whole
    → negative ≡ (t * a + 1) * b
negated t a b mask negative whole is_mask is_whole is = omega (arith, is_mask, is_whole, opened t (a * b), mul_assoc t a b)
  where
    opened : (t n : ℕ) → (t + 1) * n ≡ t * n + n
    opened t n = omega arith

low_bit : (j k mask negative : ℕ) → 0 < j → j + k ≤ 64 → mask ≡ 2 ^ (j + k) - 2 ^ k → negative + mask ≡ 2 ^ 64
    → bit_and mask negative ≡ 2 ^ k
low_bit j k mask negative some inside is is_negative =
    let a = 2 ^ j in
    let b = 2 ^ k in
    let top : 2 ^ (j + k) ≡ a * b = pow-add 2 j k in
    let above = 2 ^ (64 - (j + k)) in
    let split : 64 ≡ 64 - (j + k) + (j + k) = omega arith in
    let one : above ≡ above - 1 + 1 = omega (arith, pow_pos (64 - (j + k))) in
    let whole : 2 ^ 64 ≡ (above - 1 + 1) * (a * b) =
    ap (λ n. 2 ^ n) split ∙ pow-add 2 (64 - (j + k)) (j + k) ∙ ap (λ n. above * n) top ∙ ap (λ n. n * (a * b)) one in
    let next : j ≡ suc (j - 1) = omega arith in
    let two : 1 < a = omega (arith, ap (λ n. 2 ^ n) next ∙ pow-succ' 2 (j - 1), pow_pos (j - 1)) in
    let twice : 2 * b ≤ a * b = mul-le-mul_right {m = 2} {n = a} b (omega arith) in
    let is_mask : mask + b ≡ a * b = omega (arith, is, top, twice) in
    and_comm mask negative ∙ ap (bit_and negative) is ∙ and_high negative j k
    ∙ ap (λ n. n / b % a * b) (negated (above - 1) a b mask negative (2 ^ 64) is_mask whole is_negative)
    ∙ lowest (above - 1) a b two (pow_pos k)

pub sixteen_le : (lo hi : ℕ) → lo ≤ hi → 16 * 16 ^ lo ≤ 16 ^ (hi + 1)
sixteen_le lo hi ordered = omega (arith, pow-succ' 16 lo, pow-le-pow_right {n = 16} (omega arith) {i = suc lo} {j = hi + 1} (omega arith))

pub first_one : (lo hi mask negative : ℕ) → lo ≤ hi → hi < 14 → mask + 16 ^ lo ≡ 16 ^ (hi + 1) → mask < 2 ^ 56 → negative < 2 ^ 64
    → (negative + mask) % 2 ^ 64 ≡ 0 → bit_and mask negative ≡ 16 ^ lo
first_one lo hi mask negative ordered inside is fits in_word sum =
    let more = sixteen_le lo hi ordered in
    low_bit (4 * (hi + 1 - lo)) (4 * lo) mask negative (omega arith) (omega arith)
    (mask_bits lo hi mask ordered is) (omega (arith, sum, more, is, weight_positive lo))
    ∙ bits_of_places lo

-- A number with a 1 at each of its places.
abbrev pub repunit : ℕ → ℕ
repunit zero = 0
repunit (suc count) = 1 + 16 * repunit count

repunit_fifteen : (count : ℕ) → 15 * repunit count + 1 ≡ 16 ^ count
repunit_fifteen zero = refl
repunit_fifteen (suc count) = omega (arith, repunit_fifteen count, pow-succ' 16 count)

repunit_sum : (high low : ℕ) → repunit (high + low) ≡ repunit high * 16 ^ low + repunit low
repunit_sum high zero =
    let none : high + 0 ≡ high = omega arith in
    ap repunit none ∙ omega arith
repunit_sum high (suc low) =
    let more : high + suc low ≡ suc (high + low) = omega arith in
    ap repunit more ∙ ap (λ n. 1 + 16 * n) (repunit_sum high low)
    ∙ next (repunit high) (16 ^ low) (repunit low) (16 ^ suc low) (pow-succ' 16 low)
  where
    next : (high weight low more : ℕ) → more ≡ 16 * weight → 1 + 16 * (high * weight + low) ≡ high * more + (1 + 16 * low)
    next high weight low more is = rw is (omega arith)

-- A mask is fifteen times a whole number.
pub fifteen_times : (lo hi mask : ℕ) → lo ≤ hi → mask + 16 ^ lo ≡ 16 ^ (hi + 1) → mask ≡ 15 * (repunit (hi + 1 - lo) * 16 ^ lo)
fifteen_times lo hi mask ordered is =
    let count = hi + 1 - lo in
    let whole : 16 ^ (hi + 1) ≡ 16 ^ count * 16 ^ lo = ap (λ places. 16 ^ places) (omega arith) ∙ pow-add 16 count lo in
    without_one mask (repunit count) (16 ^ count) (16 ^ lo) (repunit_fifteen count) (is ∙ whole)
  where
    without_one : (mask ones limit weight : ℕ) → 15 * ones + 1 ≡ limit → mask + weight ≡ limit * weight → mask ≡ 15 * (ones * weight)
    without_one mask ones limit weight fifteen is = omega (arith, rw (← fifteen) at is)

-- The sixes that a mask selects.
sixes_of_fifteens : (few more : ℕ) → few ≤ more → bit_and (15 * repunit few) (6 * repunit more) ≡ 6 * repunit few
sixes_of_fifteens zero more less = omega (arith, and_le_l 0 (6 * repunit more))
sixes_of_fifteens (suc few) zero less = absurd (omega (arith, less))
sixes_of_fifteens (suc few) (suc more) less =
    let first : 15 * repunit (suc few) ≡ 15 * repunit few * 2 ^ 4 + 15 = omega arith in
    let second : 6 * repunit (suc more) ≡ 6 * repunit more * 2 ^ 4 + 6 = omega arith in
    ap (λ n. bit_and n (6 * repunit (suc more))) first ∙ ap (bit_and (15 * repunit few * 2 ^ 4 + 15)) second
    ∙ and_block 4 (15 * repunit few) (6 * repunit more) 15 6 (omega arith) (omega arith)
    ∙ omega (arith, sixes_of_fifteens few more (omega (arith, less)))

pub mask_sixes : (lo hi mask : ℕ) → lo ≤ hi → hi < 14 → mask + 16 ^ lo ≡ 16 ^ (hi + 1)
    → bit_and mask (6 * repunit 14) ≡ 6 * (repunit (hi + 1 - lo) * 16 ^ lo)
mask_sixes lo hi mask ordered inside is =
    let count = hi + 1 - lo in
    let k = 4 * lo in
    let weight = bits_of_places lo in
    let first : mask ≡ 15 * repunit count * 2 ^ k + 0 =
    omega (arith, fifteen_times lo hi mask ordered is, ap (λ n. 15 * repunit count * n) weight) in
    let split : 14 ≡ 14 - lo + lo = omega arith in
    let all : repunit 14 ≡ repunit (14 - lo) * 16 ^ lo + repunit lo = ap repunit split ∙ repunit_sum (14 - lo) lo in
    let second : 6 * repunit 14 ≡ 6 * repunit (14 - lo) * 2 ^ k + 6 * repunit lo =
    omega (arith, all, ap (λ n. repunit (14 - lo) * n) weight) in
    let small : 6 * repunit lo < 2 ^ k = omega (arith, weight, repunit_fifteen lo) in
    ap (λ n. bit_and n (6 * repunit 14)) first ∙ ap (bit_and (15 * repunit count * 2 ^ k + 0)) second
    ∙ and_block k (15 * repunit count) (6 * repunit (14 - lo)) 0 (6 * repunit lo) (pow_pos k) small
    ∙ ap (λ n. n * 2 ^ k + bit_and 0 (6 * repunit lo)) (sixes_of_fifteens count (14 - lo) (omega arith))
    ∙ omega (arith, and_le_l 0 (6 * repunit lo), ap (λ n. repunit count * n) weight)

pub some_sixes : (lo hi : ℕ) → lo ≤ hi → 16 ^ lo ≤ 6 * (repunit (hi + 1 - lo) * 16 ^ lo)
some_sixes lo hi ordered =
    let next : hi + 1 - lo ≡ suc (hi - lo) = omega arith in
    let one : repunit (hi + 1 - lo) ≡ 1 + 16 * repunit (hi - lo) = ap repunit next in
    omega (arith, mul-le-mul_right {m = 1} {n = repunit (hi + 1 - lo)} (16 ^ lo) (omega arith))

pub next-le : (hi : ℕ) → hi < 14 → 16 ^ (hi + 1) ≤ 2 ^ 56
next-le hi inside = pow-le-pow_right {n = 16} (omega arith) {i = hi + 1} {j = 14} (omega arith)

-- Different places have different weights.
heavier : (a b : ℕ) → a < b → 16 ^ a < 16 ^ b
heavier a b less =
    omega (arith, pow-succ' 16 a, weight_positive a, pow-le-pow_right {n = 16} (omega arith) {i = suc a} {j = b} (omega arith))

pub same_place : (a b : ℕ) → 16 ^ a ≡ 16 ^ b → a ≡ b
same_place a b same = elim (cases_lt a b) [
  | inl less ↦ absurd (omega (arith, heavier a b less))
  | inr more ↦ elim (cases_lt b a) [
    | inl less ↦ absurd (omega (arith, heavier b a less))
    | inr other ↦ omega arith
  ]
]
