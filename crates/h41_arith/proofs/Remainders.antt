-- In base 10 a difference is that of the numbers, and six less at each digit that borrows.
use Rattle.std.proofs.Common.{◌≡◌, ℕ, suc, zero, ◌+◌, ◌-◌, ◌*◌, ◌/◌, ◌%◌, ◌^◌, ◌<◌, ◌≤◌, Bool, List, [], ◌∷◌, length, take, drop, sym, ap}
use Rattle.std.proofs.Common.{subst, arith, ◌∙◌, rules}
use Rattle.std.proofs.Math.Nat.{pow-succ', mul-add-mod_self_right, mod-eq_of_lt, mod-add-div, mul_comm}
use Rattle.std.proofs.lemmas.List.Elements.{recursion_from_All}
use Rattle.std.specs.Int.RustNames.{bit_and, bit_xor}
use Rattle.std.specs.List.{AllByRecursion}
use Rattle.h41_digits.specs.Register.{IsRegister, value}
use Rattle.h41_digits.specs.Packed.{value-cons}
use Rattle.h41_arith.specs.DigitRule.{DifferenceDigit, DifferenceInto, carry_digit}
use Rattle.h41_arith.proofs.Carries.{carry_le}
use Rattle.h41_arith.proofs.Decimal.{ones, ones_more, changed, last_of_xor, shifted_xor, masked_more}
use Rattle.h41_arith.proofs.Parts.{part, part-register, keeps_outside}
use Rattle.h41_arith.proofs.Steps.{Steps, steps_none, steps_more, has_carries}

-- The borrow out of one place, and the borrows out of each digit of a difference, as ones.
abbrev pub borrow_of : ℕ → ℕ → ℕ → ℕ
borrow_of a b borrow = (15 + b + borrow - a) / 16

abbrev pub borrow_word : List ℕ → List ℕ → ℕ → ℕ
borrow_word [] y borrow = 0
borrow_word (a ∷ x) [] borrow = 0
borrow_word (a ∷ x) (b ∷ y) borrow = borrow_of a b borrow + 16 * borrow_word x y (borrow_of a b borrow)

borrow_bit_of : (a b borrow : ℕ) → a < 16 → b < 16 → borrow ≤ 1 → borrow_of a b borrow ≤ 1
borrow_bit_of a b borrow a_small b_small bit = omega (arith, a_small, b_small, bit)

-- The last bits of two numbers and of their difference determine the borrow in.
borrow_bit : (x y left borrow half : ℕ) → borrow ≤ 1 → x + 2 * half ≡ left + y + borrow → bit_xor (bit_xor x y) left % 2 ≡ borrow
borrow_bit x y left borrow half bit is = omega (arith, last_of_xor (bit_xor x y) left, last_of_xor x y)

pub even_with_borrow : (x y left borrow half : ℕ) → x + 2 * half ≡ left + y + borrow → bit_xor (bit_xor (bit_xor x y) borrow) left % 2 ≡ 0
even_with_borrow x y left borrow half is = search (rules, last_of_xor)

-- The lowest digit of a difference, and the difference of the other digits.
lowest_digit : (a b borrow low up x y above : ℕ) → a < 16 → b < 16 → borrow ≤ 1 → low < 16
    → low + 16 * up + (b + 16 * y) + borrow ≡ a + 16 * x + 16 * above
    → (low + b + borrow ≡ a + 16 * borrow_of a b borrow) × (up + y + borrow_of a b borrow ≡ x + above)
lowest_digit a b borrow low up x y above a_small b_small bit low_small whole = search rules

-- A number with one more digit, modulo a limit.
mod_more : (r n weight : ℕ) → r < 16 → 0 < weight → (r + 16 * n) % (16 * weight) ≡ r + 16 * (n % weight)
mod_more r n weight small positive =
    let split : r + 16 * n ≡ n / weight * (16 * weight) + (r + 16 * (n % weight)) =
    omega (arith, mod-add-div n weight, turned (n / weight) weight) in
    let below : n % weight + 1 ≤ weight = omega (arith, positive) in
    ap (λ k. k % (16 * weight)) split ∙ mul-add-mod_self_right (n / weight) (16 * weight) (r + 16 * (n % weight))
    ∙ mod-eq_of_lt (omega (arith, below, small))
  where
    turned : (q weight : ℕ) → q * (16 * weight) ≡ 16 * (weight * q)
    turned q weight = omega arith

weighted : (weight out more : ℕ) → more ≡ 16 * weight → more * out ≡ 16 * (weight * out)
weighted weight out more is = rw is (omega arith)

-- The bits of two numbers and of their difference determine the borrows, whatever the digits above them are.
pub borrows_read : (x y : List ℕ) (borrow left half places : ℕ) → AllByRecursion (λ digit. digit < 16) x
    → AllByRecursion (λ digit. digit < 16) y → length x ≡ length y → length y ≤ places → borrow ≤ 1
    → left + value y + borrow ≡ value x + 2 * (16 ^ length y * half)
    → changed (value x) (value y) left places % 16 ^ length y ≡ borrow_word x y borrow
borrows_read [] [] borrow left half places p q same few bit whole = omega arith
borrows_read [] (b ∷ y) borrow left half places p q same few bit whole = absurd (omega (arith, same))
borrows_read (a ∷ x) [] borrow left half places p q same few bit whole = absurd (omega (arith, same))
borrows_read (a ∷ x) (b ∷ y) borrow left half zero p q same few bit whole = absurd (omega (arith, few))
borrows_read (a ∷ x) (b ∷ y) borrow left half (suc places) p q same few bit whole =
    let next = borrow_of a b borrow in
    let low = left % 16 in
    let up = left / 16 in
    let weight = 16 ^ length y in
    let is_weight : 16 ^ suc (length y) ≡ 16 * weight = pow-succ' 16 (length y) in
    let above : 2 * (16 ^ suc (length y) * half) ≡ 16 * (2 * (weight * half)) = omega (arith, weighted weight half _ is_weight) in
    let is_left : left ≡ low + 16 * up = omega arith in
    let opened : low + 16 * up + (b + 16 * value y) + borrow ≡ a + 16 * value x + 16 * (2 * (weight * half)) =
    omega (arith, whole, above, is_left, value-cons a x, value-cons b y) in
    let step = lowest_digit a b borrow low up (value x) (value y) (2 * (weight * half)) p.0 q.0 bit (omega arith) opened in
    let next_bit = borrow_bit_of a b borrow p.0 q.0 bit in
    let parts =
    ap (λ n. bit_xor n left / 16)
    (ap (λ n. bit_xor n (value (b ∷ y))) (value-cons a x) ∙ ap (bit_xor (a + 16 * value x)) (value-cons b y)) in
    let word : bit_xor (bit_xor (value (a ∷ x)) (value (b ∷ y))) left / 16 ≡ bit_xor (bit_xor (value x) (value y)) up =
    parts ∙ ap (λ n. bit_xor (bit_xor (a + 16 * value x) (b + 16 * value y)) n / 16) is_left
    ∙ shifted_xor a b low (value x) (value y) up p.0 q.0 (omega arith) in
    let masked =
    ap (λ n. bit_and n (ones (suc places))) word ∙ ap (bit_and (bit_xor (bit_xor (value x) (value y)) up)) (ones_more places)
    ∙ masked_more (bit_xor (bit_xor (value x) (value y)) up) (ones places) in
    let told =
    masked
    ∙ ap (λ n. n + 16 * changed (value x) (value y) up places)
    (borrow_bit (value x) (value y) up next (weight * half) next_bit (sym step.1)) in
    ap (λ n. n % 16 ^ suc (length y)) told ∙ ap (λ n. (next + 16 * changed (value x) (value y) up places) % n) is_weight
    ∙ mod_more next (changed (value x) (value y) up places) weight (omega (arith, next_bit)) (pow_pos16 (length y))
    ∙ ap (λ n. next + 16 * n) (borrows_read x y next up half places p.1 q.1 (omega (arith, same)) (omega (arith, few)) next_bit step.1)
  where
    pow_pos16 : (n : ℕ) → 0 < 16 ^ n
    pow_pos16 zero = omega arith
    pow_pos16 (suc n) = omega (arith, pow-succ' 16 n, pow_pos16 n)

-- Six is subtracted at each digit that borrows.
pub six_left : (x y : List ℕ) (borrow left out : ℕ) → AllByRecursion (λ digit. digit < 16) x → AllByRecursion (λ digit. digit < 10) y
    → length x ≡ length y → borrow ≤ 1 → left + value y + borrow ≡ value x + 16 ^ length y * out → 6 * borrow_word x y borrow ≤ left
six_left [] [] borrow left out p q same bit whole = omega arith
six_left [] (b ∷ y) borrow left out p q same bit whole = absurd (omega (arith, same))
six_left (a ∷ x) [] borrow left out p q same bit whole = absurd (omega (arith, same))
six_left (a ∷ x) (b ∷ y) borrow left out p q same bit whole =
    let next = borrow_of a b borrow in
    let low = left % 16 in
    let up = left / 16 in
    let small : b < 16 = omega (arith, q.0) in
    let is_left : left ≡ low + 16 * up = omega arith in
    let above : 16 ^ suc (length y) * out ≡ 16 * (16 ^ length y * out) = weighted (16 ^ length y) out _ (pow-succ' 16 (length y)) in
    let opened : low + 16 * up + (b + 16 * value y) + borrow ≡ a + 16 * value x + 16 * (16 ^ length y * out) =
    omega (arith, whole, above, is_left, value-cons a x, value-cons b y) in
    let step = lowest_digit a b borrow low up (value x) (value y) (16 ^ length y * out) p.0 small bit (omega arith) opened in
    let next_bit = borrow_bit_of a b borrow p.0 small bit in
    let rest = six_left x y next up out p.1 q.1 (omega (arith, same)) next_bit step.1 in
    let six : 6 * next ≤ low = omega (arith, step.0, q.0, bit, next_bit) in
    omega (arith, is_left, rest, six)

-- The lowest digit of a difference in base 10.
remainder_step : (a b borrow d x y z words above : ℕ) → a < 16 → b < 10 → borrow ≤ 1 → d < 16
    → d + 16 * z + 6 * (borrow_of a b borrow + 16 * words) + (b + 16 * y) + borrow ≡ a + 16 * x + 16 * above
    → DifferenceDigit 10 a b borrow d (borrow_of a b borrow) × (z + 6 * words + y + borrow_of a b borrow ≡ x + above)
remainder_step a b borrow d x y z words above a_small b_small bit d_small whole = search rules

pub remainder_steps : (x y z : List ℕ) (borrow out : ℕ) → AllByRecursion (λ digit. digit < 16) x → AllByRecursion (λ digit. digit < 10) y
    → AllByRecursion (λ digit. digit < 16) z → length x ≡ length z → length y ≡ length z → borrow ≤ 1
    → value z + 6 * borrow_word x y borrow + value y + borrow ≡ value x + 16 ^ length z * out
    → Steps (DifferenceDigit 10) x y borrow z (length z) out
remainder_steps [] [] [] borrow out p q r same_x same_y bit whole = steps_none _ _ _ _ borrow out (omega (arith, whole))
remainder_steps [] (b ∷ y) [] borrow out p q r same_x same_y bit whole = absurd (omega (arith, same_y))
remainder_steps (a ∷ x) y [] borrow out p q r same_x same_y bit whole = absurd (omega (arith, same_x))
remainder_steps [] y (d ∷ z) borrow out p q r same_x same_y bit whole = absurd (omega (arith, same_x))
remainder_steps (a ∷ x) [] (d ∷ z) borrow out p q r same_x same_y bit whole = absurd (omega (arith, same_y))
remainder_steps (a ∷ x) (b ∷ y) (d ∷ z) borrow out p q r same_x same_y bit whole =
    let next = borrow_of a b borrow in
    let words = borrow_word x y next in
    let above : 16 ^ suc (length z) * out ≡ 16 * (16 ^ length z * out) = weighted (16 ^ length z) out _ (pow-succ' 16 (length z)) in
    let opened : d + 16 * value z + 6 * (next + 16 * words) + (b + 16 * value y) + borrow ≡ a + 16 * value x + 16 * (16 ^ length z * out) =
    omega (arith, whole, above, value-cons d z, value-cons a x, value-cons b y) in
    let step = remainder_step a b borrow d (value x) (value y) (value z) words (16 ^ length z * out) p.0 q.0 bit r.0 opened in
    let next_bit = borrow_bit_of a b borrow p.0 (omega (arith, q.0)) bit in
    steps_more _ a b d x y z borrow next (length z) out step.0
    (remainder_steps x y z next out p.1 q.1 r.1 (omega (arith, same_x)) (omega (arith, same_y)) next_bit step.1)

-- Numbers below a limit that differ by a multiple of it are the same.
same_below : (a b limit p q : ℕ) → a < limit → b < limit → a + p * limit ≡ b + q * limit → a ≡ b
same_below a b limit p q a_small b_small whole =
    sym (mul-add-mod_self_right p limit a ∙ mod-eq_of_lt a_small) ∙ ap (λ n. n % limit) (omega (arith, whole))
    ∙ mul-add-mod_self_right q limit b ∙ mod-eq_of_lt b_small

-- A difference minus six at each digit that borrows, modulo a limit.
pub remainder_left : (x y : List ℕ) (borrow out_of left left' bits limit more over number : ℕ) → AllByRecursion (λ digit. digit < 16) x
    → AllByRecursion (λ digit. digit < 10) y → length x ≡ length y → borrow ≤ 1 → limit ≡ 16 ^ length y
    → left % limit + value y + borrow ≡ value x + limit * out_of → bits % limit ≡ borrow_word x y borrow
    → left' + 6 * bits ≡ left + limit * more * over → number ≡ left' % limit → 0 < limit
    → number + 6 * borrow_word x y borrow + value y + borrow ≡ value x + limit * out_of
remainder_left x y borrow out_of left left' bits limit more over number p q same bit is_limit whole is_bits taken is positive =
    let words = borrow_word x y borrow in
    let t = left % limit in
    let six : 6 * words ≤ t = six_left x y borrow t out_of p q same bit (whole ∙ ap (λ n. value x + n * out_of) is_limit) in
    let t_small : t < limit = omega (arith, positive) in
    let n_small : number < limit = omega (arith, is, positive) in
    let is_left' : left' ≡ number + left' / limit * limit = omega (arith, mod-add-div left' limit, mul_comm limit (left' / limit), is) in
    let is_left : left ≡ t + left / limit * limit = omega (arith, mod-add-div left limit, mul_comm limit (left / limit)) in
    let all_bits : bits ≡ words + bits / limit * limit = omega (arith, mod-add-div bits limit, mul_comm limit (bits / limit), is_bits) in
    let same_number : number ≡ t - 6 * words =
    same_below number (t - 6 * words) limit (left' / limit + 6 * (bits / limit))
    (left / limit + more * over) n_small (omega (arith, t_small))
    (put_together number (left' / limit) (bits / limit) (left / limit) more over
    limit t words left left' bits is_left' is_left all_bits taken six) in
    omega (arith, same_number, six, whole)
  where
    put_together : (number a b c more over limit t words left left' bits : ℕ) → left' ≡ number + a * limit → left ≡ t + c * limit
        → bits ≡ words + b * limit → left' + 6 * bits ≡ left + limit * more * over → 6 * words ≤ t
        → number + (a + 6 * b) * limit ≡ t - 6 * words + (c + more * over) * limit
    put_together number a b c more over limit t words left left' bits is_left' is_left is_bits taken six =
        omega (arith, is_left', is_left, is_bits, taken, six)

-- The result of a difference in base 10 that was written to a span.
pub remainder_result : (into x y z : List ℕ) (borrow_in borrow : Bool) (lo hi : ℕ) → IsRegister 14 x → IsRegister 14 y → IsRegister 14 z
    → lo ≤ hi → hi < 14 → AllByRecursion (λ digit. digit < 10) (part y lo hi)
    → value (part z lo hi) + 6 * borrow_word (part x lo hi) (part y lo hi) (carry_digit borrow_in) + value (part y lo hi)
    + carry_digit borrow_in
    ≡ value (part x lo hi) + 16 ^ (hi + 1 - lo) * carry_digit borrow
    → take lo z ≡ take lo into → drop (hi + 1) z ≡ drop (hi + 1) into → DifferenceInto 10 into x y borrow_in lo hi z borrow
remainder_result into x y z borrow_in borrow lo hi p q r ordered inside each whole below above =
    let a = part-register x lo hi p ordered inside in
    let b = part-register y lo hi q ordered inside in
    let d = part-register z lo hi r ordered inside in
    let sized : value (part z lo hi) + 6 * borrow_word (part x lo hi) (part y lo hi) (carry_digit borrow_in) + value (part y lo hi)
    + carry_digit borrow_in
    ≡ value (part x lo hi) + 16 ^ length (part z lo hi) * carry_digit borrow =
    rw d.size whole in
    let steps =
    remainder_steps (part x lo hi) (part y lo hi) (part z lo hi) (carry_digit borrow_in)
    (carry_digit borrow) (recursion_from_All _ _ a.each) each (recursion_from_All _ _ d.each)
    (a.size ∙ sym d.size) (b.size ∙ sym d.size) (carry_le borrow_in) sized in record {
      register = r;
      digits = has_carries (DifferenceDigit 10) x y z lo hi (carry_digit borrow_in) (carry_digit borrow) (carry_le borrow_in) ordered
          (subst (λ count.
          Steps (DifferenceDigit 10) (part x lo hi) (part y lo hi) (carry_digit borrow_in) (part z lo hi) count (carry_digit borrow))
          d.size steps);
      outside = keeps_outside into z lo hi below above;
    }
