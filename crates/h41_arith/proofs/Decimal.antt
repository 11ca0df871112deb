-- In base 10 a sum is that of the numbers, and six more at each digit that carries.
use Rattle.std.proofs.Common.{◌≡◌, ℕ, suc, zero, ◌+◌, ◌-◌, ◌*◌, ◌/◌, ◌%◌, ◌^◌, ◌<◌, ◌≤◌, ◌==◌, Bool, false, not, List, [], ◌∷◌, map, rules}
use Rattle.std.proofs.Common.{replicate, length, take, drop, refl, sym, ap, subst, arith, ◌∙◌}
use Rattle.std.proofs.Math.Nat.{pow-succ'}
use Rattle.std.proofs.lemmas.Bool.Decides.{nat_tests}
use Rattle.std.proofs.lemmas.List.{length-replicate}
use Rattle.std.proofs.lemmas.List.Elements.{recursion_from_All}
use Rattle.std.proofs.lemmas.Nat.{xor_shr, and_block, and_mask, and_le_l}
use Rattle.std.proofs.lemmas.Nat.Bits.{bit_at_lowest, bit_at_xor}
use Rattle.std.specs.Int.RustNames.{bit_and, bit_xor}
use Rattle.std.specs.List.{AllByRecursion}
use Rattle.h41_digits.specs.Register.{IsRegister, value}
use Rattle.h41_digits.specs.Packed.{value-cons}
use Rattle.h41_arith.specs.DigitRule.{SumDigit, SumInto, carry_digit}
use Rattle.h41_arith.proofs.Carries.{carry_le}
use Rattle.h41_arith.proofs.Parts.{part, part-register, keeps_outside}
use Rattle.h41_arith.proofs.Steps.{Steps, steps_none, steps_more, has_carries}

-- A number with a 1 in each of its digits.
abbrev pub ones : ℕ → ℕ
ones count = value (replicate count 1)

pub ones_more : (count : ℕ) → ones (suc count) ≡ 1 + 16 * ones count
ones_more count = value-cons 1 (replicate count 1)

-- Fifteen times this number, plus one, is the first number with one more digit.
pub fifteen_ones : (count : ℕ) → 15 * ones count + 1 ≡ 16 ^ count
fifteen_ones zero = refl
fifteen_ones (suc count) = omega (arith, ones_more count, fifteen_ones count, pow-succ' 16 count)

-- The carries out of each digit of a sum, as ones.
abbrev pub carry_word : List ℕ → List ℕ → ℕ → ℕ
carry_word [] y carry = 0
carry_word (a ∷ x) [] carry = 0
carry_word (a ∷ x) (b ∷ y) carry = (a + b + carry) / 16 + 16 * carry_word x y ((a + b + carry) / 16)

pub last_of_xor : (x y : ℕ) → bit_xor x y % 2 ≡ (x % 2 + y % 2) % 2
last_of_xor x y = omega (arith, sym (bit_at_lowest (bit_xor x y)) ∙ bit_at_xor x y 0, bit_at_lowest x, bit_at_lowest y)

-- The last bits of two numbers and of their sum determine the carry in, whatever even number is added to the sum.
carry_bit : (x y sum carry half : ℕ) → carry ≤ 1 → sum ≡ x + y + carry + 2 * half → bit_xor (bit_xor x y) sum % 2 ≡ carry
carry_bit x y sum carry half bit is = omega (arith, last_of_xor (bit_xor x y) sum, last_of_xor x y)

-- The other bits of the carry do not change this.
pub even_with_carry : (x y sum carry half : ℕ) → sum ≡ x + y + carry + 2 * half → bit_xor (bit_xor (bit_xor x y) carry) sum % 2 ≡ 0
even_with_carry x y sum carry half is = search (rules, last_of_xor)

-- The exclusive or of two numbers and their sum, with one digit less.
pub shifted_xor : (a b s x y sum : ℕ) → a < 16 → b < 16 → s < 16
    → bit_xor (bit_xor (a + 16 * x) (b + 16 * y)) (s + 16 * sum) / 16 ≡ bit_xor (bit_xor x y) sum
shifted_xor a b s x y sum a_small b_small s_small =
    let is_x : (a + 16 * x) / 16 ≡ x = omega arith in
    let is_y : (b + 16 * y) / 16 ≡ y = omega arith in
    let is_sum : (s + 16 * sum) / 16 ≡ sum = omega arith in
    xor_shr (bit_xor (a + 16 * x) (b + 16 * y)) (s + 16 * sum) 4
    ∙ ap (λ n. bit_xor n ((s + 16 * sum) / 16))
    (xor_shr (a + 16 * x) (b + 16 * y) 4 ∙ ap (λ n. bit_xor n ((b + 16 * y) / 16)) is_x ∙ ap (bit_xor x) is_y)
    ∙ ap (bit_xor (bit_xor x y)) is_sum

-- A mask of ones, one digit at a time.
pub masked_more : (n mask : ℕ) → bit_and n (1 + 16 * mask) ≡ n % 2 + 16 * bit_and (n / 16) mask
masked_more n mask =
    let split : n ≡ n / 16 * 16 + n % 16 = omega arith in
    let turned : 1 + 16 * mask ≡ mask * 16 + 1 = omega arith in
    let low : bit_and (n % 16) 1 ≡ n % 16 % 2 = and_mask (n % 16) 1 in
    omega (
      arith,
      ap (λ k. bit_and k (1 + 16 * mask)) split ∙ ap (bit_and (n / 16 * 16 + n % 16)) turned
          ∙ and_block 4 (n / 16) mask (n % 16) 1 (omega arith) (omega arith),
      low,
    )

-- A register with six more in each digit.
abbrev pub with_sixes : List ℕ → List ℕ
with_sixes digits = map (λ digit. digit + 6) digits

pub value-with_sixes : (digits : List ℕ) → value (with_sixes digits) ≡ value digits + 6 * ones (length digits)
value-with_sixes [] = refl
value-with_sixes (digit ∷ digits) =
    omega (arith, value-cons (digit + 6) (with_sixes digits), value-cons digit digits, value-with_sixes digits, ones_more (length digits))

-- A 1 at each of the digits after which the last bit of a result is not that of two numbers.
abbrev pub changed : ℕ → ℕ → ℕ → ℕ → ℕ
changed first second result places = bit_and (bit_xor (bit_xor first second) result / 16) (ones places)

-- A 1 in each digit that carries in a sum with a carry and with six more in each digit.
abbrev pub tens : ℕ → ℕ → ℕ → ℕ → ℕ → ℕ
tens first second carry sixes places = changed first second (first + second + carry + sixes) places

-- The total in base 10, computed with these ones.
abbrev pub total_with_tens : ℕ → ℕ → ℕ → ℕ → ℕ → ℕ
total_with_tens first second carry mask places = first + second + carry + 6 * tens first second carry (6 * mask) places

nothing_to_read : (sum places : ℕ) → sum < 16 → bit_and (bit_xor (bit_xor 0 0) sum / 16) (ones places) ≡ 0
nothing_to_read sum places small = search (rules, xor_shr, and_le_l)

-- The bits of two numbers and of their sum determine the carries.
pub tens_read : (x y : List ℕ) (carry places : ℕ) → AllByRecursion (λ digit. digit < 10) x → AllByRecursion (λ digit. digit < 16) y
    → length x ≡ length y → length y ≤ places → carry ≤ 1
    → tens (value x) (value y) carry (6 * ones (length y)) places ≡ carry_word (with_sixes x) y carry
tens_read [] [] carry places p q same few bit = nothing_to_read _ places (omega (arith, bit))
tens_read [] (b ∷ y) carry places p q same few bit = absurd (omega (arith, same))
tens_read (a ∷ x) [] carry places p q same few bit = absurd (omega (arith, same))
tens_read (a ∷ x) (b ∷ y) carry zero p q same few bit = absurd (omega (arith, few))
tens_read (a ∷ x) (b ∷ y) carry (suc places) p q same few bit =
    let s = a + 6 + b + carry in
    let next = s / 16 in
    let next_bit : next ≤ 1 = omega (arith, p.0, q.0) in
    let sixes = 6 * ones (length y) in
    let sum = value x + value y + next + sixes in
    let whole = value (a ∷ x) + value (b ∷ y) + carry + 6 * ones (suc (length y)) in
    let is_sum : whole ≡ s % 16 + 16 * sum = omega (arith, value-cons a x, value-cons b y, ones_more (length y)) in
    let small : a < 16 = omega (arith, p.0) in
    let parts =
    ap (λ n. bit_xor n whole / 16)
    (ap (λ n. bit_xor n (value (b ∷ y))) (value-cons a x) ∙ ap (bit_xor (a + 16 * value x)) (value-cons b y)) in
    let word : bit_xor (bit_xor (value (a ∷ x)) (value (b ∷ y))) whole / 16 ≡ bit_xor (bit_xor (value x) (value y)) sum =
    parts ∙ ap (λ n. bit_xor (bit_xor (a + 16 * value x) (b + 16 * value y)) n / 16) is_sum
    ∙ shifted_xor a b (s % 16) (value x) (value y) sum small q.0 (omega arith) in
    let masked =
    ap (λ n. bit_and n (ones (suc places))) word ∙ ap (bit_and (bit_xor (bit_xor (value x) (value y)) sum)) (ones_more places)
    ∙ masked_more (bit_xor (bit_xor (value x) (value y)) sum) (ones places) in
    masked
    ∙ ap (λ n. n + 16 * tens (value x) (value y) next sixes places)
    (carry_bit (value x) (value y) sum next (3 * ones (length y)) next_bit (omega arith))
    ∙ ap (λ n. next + 16 * n) (tens_read x y next places p.1 q.1 (omega (arith, same)) (omega (arith, few)) next_bit)

-- A letter is found by adding sixes to the number alone.
value-zeros : (count : ℕ) → value (replicate count 0) ≡ 0
value-zeros zero = refl
value-zeros (suc count) = omega (arith, value-cons 0 (replicate count 0), value-zeros count)

zeros_small : (count : ℕ) → AllByRecursion (λ digit. digit < 10) (replicate count 0)
zeros_small zero = tt
zeros_small (suc count) = (omega arith, zeros_small count)

-- If nothing carries when six is added to each digit, each digit is below 10.
no_letter : (digits : List ℕ) → carry_word (with_sixes (replicate (length digits) 0)) digits 0 ≡ 0
    → AllByRecursion (λ digit. digit < 10) digits
no_letter [] none = tt
no_letter (digit ∷ digits) none =
    let here : (0 + 6 + digit + 0) / 16 ≡ 0 = omega (arith, none) in
    let rest : carry_word (with_sixes (replicate (length digits) 0)) digits ((0 + 6 + digit + 0) / 16) ≡ 0 = omega (arith, none) in (
      omega (arith, here),
      no_letter digits (subst (λ carry. carry_word (with_sixes (replicate (length digits) 0)) digits carry ≡ 0) here rest),
    )

pub decimal_digits : (digits : List ℕ) (number mask places : ℕ) → AllByRecursion (λ digit. digit < 16) digits → number ≡ value digits
    → mask ≡ ones (length digits) → length digits ≤ places → tens 0 number 0 (6 * mask) places ≡ 0
    → AllByRecursion (λ digit. digit < 10) digits
decimal_digits digits number mask places each is is_mask few none =
    let count = length digits in
    let size : length (replicate {A = ℕ} count 0) ≡ count = length-replicate count 0 in
    let read = tens_read (replicate count 0) digits 0 places (zeros_small count) each size few (omega arith) in
    let known : tens 0 (value digits) 0 (6 * ones count) places ≡ carry_word (with_sixes (replicate count 0)) digits 0 =
    rw (value-zeros count) at read in
    no_letter digits (sym known ∙ rw (is, is_mask) at none)

-- The lowest digit of a sum in base 10.
tens_step : (a b carry d x y z above : ℕ) → a < 10 → b < 16 → carry ≤ 1 → d < 16
    → d + 16 * z ≡ a + 16 * x + (b + 16 * y) + carry + 6 * ((a + 6 + b + carry) / 16 + 16 * above)
    → SumDigit 10 a b carry d ((a + 6 + b + carry) / 16) × (z ≡ x + y + (a + 6 + b + carry) / 16 + 6 * above)
tens_step a b carry d x y z above a_small b_small bit d_small whole = search rules

over : (d z weight out rest : ℕ) → d + 16 * z + (16 * weight) * out ≡ rest → d + 16 * (z + weight * out) ≡ rest
over d z weight out rest whole = omega (arith, whole)

pub tens_steps : (x y z : List ℕ) (carry out : ℕ) → AllByRecursion (λ digit. digit < 10) x → AllByRecursion (λ digit. digit < 16) y
    → AllByRecursion (λ digit. digit < 16) z → length x ≡ length z → length y ≡ length z → carry ≤ 1
    → value z + 16 ^ length z * out ≡ value x + value y + carry + 6 * carry_word (with_sixes x) y carry
    → Steps (SumDigit 10) x y carry z (length z) out
tens_steps [] [] [] carry out p q r same_x same_y bit whole = steps_none _ _ _ _ carry out (omega (arith, whole))
tens_steps [] (b ∷ y) [] carry out p q r same_x same_y bit whole = absurd (omega (arith, same_y))
tens_steps (a ∷ x) y [] carry out p q r same_x same_y bit whole = absurd (omega (arith, same_x))
tens_steps [] y (d ∷ z) carry out p q r same_x same_y bit whole = absurd (omega (arith, same_x))
tens_steps (a ∷ x) [] (d ∷ z) carry out p q r same_x same_y bit whole = absurd (omega (arith, same_y))
tens_steps (a ∷ x) (b ∷ y) (d ∷ z) carry out p q r same_x same_y bit whole =
    let next = (a + 6 + b + carry) / 16 in
    let next_bit : next ≤ 1 = omega (arith, p.0, q.0) in
    let above = carry_word (with_sixes x) y next in
    let opened : d + 16 * value z + (16 * 16 ^ length z) * out ≡ a + 16 * value x + (b + 16 * value y) + carry + 6 * (next + 16 * above) =
    rw (value-cons d z, value-cons a x, value-cons b y, pow-succ' 16 (length z)) at whole in
    let step =
    tens_step a b carry d (value x) (value y) (value z + 16 ^ length z * out)
    above p.0 q.0 bit r.0 (over d (value z) (16 ^ length z) out _ opened) in
    steps_more _ a b d x y z carry next (length z) out step.0
    (tens_steps x y z next out p.1 q.1 r.1 (omega (arith, same_x)) (omega (arith, same_y)) next_bit step.1)

-- No number of digits below 10 is greater than the number of nines.
pub nine_most : (digits : List ℕ) → AllByRecursion (λ digit. digit < 10) digits → value digits ≤ 9 * ones (length digits)
nine_most [] each = omega arith
nine_most (digit ∷ digits) each = omega (arith, each.0, value-cons digit digits, nine_most digits each.1, ones_more (length digits))

fifteen_most : (digits : List ℕ) → AllByRecursion (λ digit. digit < 16) digits → value digits ≤ 15 * ones (length digits)
fifteen_most [] each = omega arith
fifteen_most (digit ∷ digits) each = omega (arith, each.0, value-cons digit digits, fifteen_most digits each.1, ones_more (length digits))

-- A total is less than twice the first number with one more digit.
carry_word-le : (x y : List ℕ) (carry : ℕ) → AllByRecursion (λ digit. digit < 10) x → AllByRecursion (λ digit. digit < 16) y
    → length x ≡ length y → carry ≤ 1 → carry_word (with_sixes x) y carry ≤ ones (length y)
carry_word-le [] [] carry p q same bit = omega arith
carry_word-le [] (b ∷ y) carry p q same bit = absurd (omega (arith, same))
carry_word-le (a ∷ x) [] carry p q same bit = absurd (omega (arith, same))
carry_word-le (a ∷ x) (b ∷ y) carry p q same bit =
    let next_bit : (a + 6 + b + carry) / 16 ≤ 1 = omega (arith, p.0, q.0) in
    omega (arith, next_bit, ones_more (length y), carry_word-le x y ((a + 6 + b + carry) / 16) p.1 q.1 (omega (arith, same)) next_bit)

pub total_small : (x y : List ℕ) (carry places : ℕ) → AllByRecursion (λ digit. digit < 10) x → AllByRecursion (λ digit. digit < 16) y
    → length x ≡ length y → length y ≤ places → carry ≤ 1
    → total_with_tens (value x) (value y) carry (ones (length y)) places < 2 * 16 ^ length y
total_small x y carry places p q same few bit = search (rules, nine_most, fifteen_most, fifteen_ones, tens_read, carry_word-le)

-- The consequences of the test for a letter.
pub no_carry : (answer : Bool) (carries : ℕ) → answer ≡ not (carries == 0) → answer ≡ false → carries ≡ 0
no_carry answer carries told is = grind (arith, nat_tests)

-- The steps of a sum that was computed with its carries.
pub tens_of : (x y z : List ℕ) (carry out count places digits first second limit mask : ℕ) → AllByRecursion (λ digit. digit < 10) x
    → AllByRecursion (λ digit. digit < 16) y → AllByRecursion (λ digit. digit < 16) z → length x ≡ count → length y ≡ count
    → length z ≡ count → count ≤ places → carry ≤ 1 → value z ≡ digits → first ≡ value x → second ≡ value y → limit ≡ 16 ^ count
    → mask ≡ ones count → digits + limit * out ≡ total_with_tens first second carry mask places → Steps (SumDigit 10) x y carry z count out
tens_of x y z carry out count places digits first second limit mask p q r size_x
    size_y size_z few bit is_z is_first is_second is_limit is_mask whole = search (rules, tens_read, tens_steps)

-- The digits of a span without a letter are decimal.
pub part_decimal : (x : List ℕ) (lo hi number mask places : ℕ) → IsRegister 14 x → lo ≤ hi → hi < 14 → number ≡ value (part x lo hi)
    → mask ≡ ones (hi + 1 - lo) → hi + 1 - lo ≤ places → tens 0 number 0 (6 * mask) places ≡ 0
    → AllByRecursion (λ digit. digit < 10) (part x lo hi)
part_decimal x lo hi number mask places register ordered inside is is_mask few none =
    let digits = part-register x lo hi register ordered inside in
    decimal_digits (part x lo hi) number mask places (recursion_from_All _ _ digits.each)
    is (is_mask ∙ ap ones (sym digits.size)) (omega (arith, digits.size, few)) none

pub part_most : (x : List ℕ) (lo hi number mask : ℕ) → IsRegister 14 x → lo ≤ hi → hi < 14 → number ≡ value (part x lo hi)
    → mask ≡ ones (hi + 1 - lo) → AllByRecursion (λ digit. digit < 10) (part x lo hi) → number ≤ 9 * mask
part_most x lo hi number mask register ordered inside is is_mask each = search (rules, part-register, nine_most)

-- The result of a sum in base 10 that was written to a span.
pub tens_result : (into x y z : List ℕ) (carry_in carry : Bool) (lo hi places digits first second limit mask : ℕ) → IsRegister 14 x
    → IsRegister 14 y → IsRegister 14 z → lo ≤ hi → hi < 14 → AllByRecursion (λ digit. digit < 10) (part x lo hi)
    → value (part z lo hi) ≡ digits → first ≡ value (part x lo hi) → second ≡ value (part y lo hi) → limit ≡ 16 ^ (hi + 1 - lo)
    → mask ≡ ones (hi + 1 - lo) → hi + 1 - lo ≤ places
    → digits + limit * carry_digit carry ≡ total_with_tens first second (carry_digit carry_in) mask places → take lo z ≡ take lo into
    → drop (hi + 1) z ≡ drop (hi + 1) into → SumInto 10 into x y carry_in lo hi z carry
tens_result into x y z carry_in carry lo hi places digits first second limit mask p q r
    ordered inside each is_z is_first is_second is_limit is_mask few whole below above =
    search (rules, part-register, tens_of, recursion_from_All, carry_le, has_carries, keeps_outside)

-- The totals of a span are small.
pub part_total_small : (x y : List ℕ) (carry : Bool) (lo hi places : ℕ) → IsRegister 14 x → IsRegister 14 y → lo ≤ hi → hi < 14
    → AllByRecursion (λ digit. digit < 10) (part x lo hi) → hi + 1 - lo ≤ places
    → total_with_tens (value (part x lo hi)) (value (part y lo hi)) (carry_digit carry) (ones (hi + 1 - lo)) places < 2 * 16 ^ (hi + 1 - lo)
part_total_small x y carry lo hi places p q ordered inside each few =
    let a = part-register x lo hi p ordered inside in
    let b = part-register y lo hi q ordered inside in
    rw b.size at (total_small (part x lo hi) (part y lo hi) (carry_digit carry) places each
    (recursion_from_All _ _ b.each) (a.size ∙ sym b.size) (omega (arith, b.size, few)) (carry_le carry))
