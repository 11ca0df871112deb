-- The numbers of a span's digits in their places: times the weight of its first place.
use Rattle.std.proofs.Common.{◌≡◌, ℕ, zero, suc, ◌+◌, ◌-◌, ◌*◌, ◌/◌, ◌%◌, ◌^◌, ◌<◌, ◌≤◌, ◌==◌, Bool, true, false, not, nat_lt, List, refl}
use Rattle.std.proofs.Common.{sym, ap, subst, arith, inl, inr, ◌∙◌, rules}
use Rattle.std.proofs.Math.Nat.{pow-succ', mul-le-mul_right, mul-mod_left, mul-add-mod_self_right, mod-add-div, add-mod_right, mod-eq_of_lt}
use Rattle.std.proofs.Math.Nat.{mul-div_cancel, div-div-eq-div-mul, mul_comm, mul_assoc, lt_of_mul-lt-mul_right}
use Rattle.std.proofs.lemmas.Bool.{cases_lt, cases_eq}
use Rattle.std.proofs.lemmas.Bool.Decides.{nat_tests}
use Rattle.std.proofs.lemmas.Nat.{pow-add, xor_shr, xor_block, pow_pos}
use Rattle.std.specs.Int.Bits.{xor_zero_r}
use Rattle.std.specs.Int.RustNames.{bit_and, bit_xor}
use Rattle.h41_digits.proofs.Packed.{bits_of_places, weight_positive}
use Rattle.h41_arith.specs.DigitRule.{carry_digit}
use Rattle.h41_arith.specs.private.DigitOperations.{all_ones, carried_of, decimal_total_of}
use Rattle.h41_arith.proofs.Decimal.{ones, ones_more, fifteen_ones, masked_more, even_with_carry, changed, tens, total_with_tens, no_carry}
use Rattle.h41_arith.proofs.Decimal.{part_decimal, part_most}
use Rattle.h41_arith.proofs.Parts.{part}
use Rattle.h41_digits.specs.Register.{IsRegister, value}
use Rattle.std.specs.List.{AllByRecursion}

-- The weight of the place after the last.
pub whole_weight : (lo hi : ℕ) → lo ≤ hi → 16 ^ (hi + 1) ≡ 16 ^ (hi + 1 - lo) * 16 ^ lo
whole_weight lo hi ordered = ap (λ places. 16 ^ places) (omega arith) ∙ pow-add 16 (hi + 1 - lo) lo

-- A number in its places is a multiple of the weight, and this determines the number.
pub is_multiple : (number n weight : ℕ) → number ≡ n * weight → number % weight ≡ 0
is_multiple number n weight is = ap (λ k. k % weight) is ∙ mul-mod_left n weight

pub is_quotient : (number n weight : ℕ) → 0 < weight → number ≡ n * weight → number / weight ≡ n
is_quotient number n weight positive is = ap (λ k. k / weight) is ∙ mul-div_cancel n positive

pub whole_quotient : (number weight : ℕ) → 0 < weight → number % weight ≡ 0 → number ≡ number / weight * weight
whole_quotient number weight positive multiple = omega (arith, mod-add-div number weight, multiple, mul_comm weight (number / weight))

-- The number one place lower.
pub sixteenth_at : (number n weight : ℕ) → 0 < weight → number ≡ n * weight → number / 16 / weight ≡ n / 16
sixteenth_at number n weight positive is =
    div-div-eq-div-mul number 16 weight ∙ ap (λ m. number / m) (mul_comm 16 weight) ∙ sym (div-div-eq-div-mul number weight 16)
    ∙ ap (λ m. m / 16) (is_quotient number n weight positive is)

-- Numbers in the same places compare as they do in the first places.
less_here : (a b weight : ℕ) → a < b → a * weight + weight ≤ b * weight
less_here a b weight less = omega (arith, mul-le-mul_right {m = a + 1} {n = b} weight (omega arith))

pub is_less_here : (a b : ℕ) → a < b → nat_lt a b ≡ true
is_less_here a b less = grind (arith, nat_tests)

pub not_less_here : (a b : ℕ) → b ≤ a → nat_lt a b ≡ false
not_less_here a b more = grind (arith, nat_tests)

pub in_place-lt : (x y a b weight : ℕ) → 0 < weight → x ≡ a * weight → y ≡ b * weight → nat_lt x y ≡ nat_lt a b
in_place-lt x y a b weight positive is_x is_y = elim (cases_lt a b) [
  | inl less ↦ is_less_here x y (omega (arith, is_x, is_y, less_here a b weight less)) ∙ sym (is_less_here a b less)
  | inr more ↦ not_less_here x y (omega (arith, is_x, is_y, mul-le-mul_right {m = b} {n = a} weight more)) ∙ sym (not_less_here a b more)
]

is_same : (a b : ℕ) → a ≡ b → (a == b) ≡ true
is_same a b same = grind (arith, nat_tests)

is_other : (a b : ℕ) → (a ≡ b → ⊥) → (a == b) ≡ false
is_other a b other = grind (arith, nat_tests)

pub in_place-eq : (x y a b weight : ℕ) → 0 < weight → x ≡ a * weight → y ≡ b * weight → (x == y) ≡ (a == b)
in_place-eq x y a b weight positive is_x is_y = elim (cases_eq a b) [
  | inl same ↦ is_same x y (is_x ∙ ap (λ n. n * weight) same ∙ sym is_y) ∙ sym (is_same a b same)
  | inr other ↦
      is_other x y
      (λ equal. other (sym (is_quotient x a weight positive is_x) ∙ ap (λ n. n / weight) equal ∙ is_quotient y b weight positive is_y))
      ∙ sym (is_other a b other)
]

-- The number is less than twice the weight of the place after the last.
pub below_twice : (number n limit weight whole : ℕ) → 0 < weight → number ≡ n * weight → whole ≡ limit * weight → n < 2 * limit
    → number < 2 * whole
below_twice number n limit weight whole positive is is_whole few =
    omega (arith, is, is_whole, less_here n (2 * limit) weight few)

pub few_of_twice : (number n limit weight whole : ℕ) → number ≡ n * weight → whole ≡ limit * weight → number < 2 * whole → n < 2 * limit
few_of_twice number n limit weight whole is is_whole below =
    lt_of_mul-lt-mul_right weight {m = n} {n = 2 * limit} (omega (arith, is, is_whole, below))

-- A number's digits, and the 1 above them: it is there exactly if the number is greater than the mask.
pub in_parts : (number n limit weight mask digits : ℕ) → 0 < weight → number ≡ n * weight → n < 2 * limit → mask + weight ≡ limit * weight
    → digits ≡ n % limit → digits + limit * carry_digit (nat_lt mask number) ≡ n
in_parts number n limit weight mask digits positive is few is_mask is_digits = elim (cases_lt n limit) [
  | inl less ↦
      let none : nat_lt mask number ≡ false = not_less_here mask number (omega (arith, is, is_mask, less_here n limit weight less)) in
      rw (none, is_digits) (omega (arith, mod-eq_of_lt less))
  | inr more ↦
      let one : nat_lt mask number ≡ true =
      is_less_here mask number (omega (arith, is, is_mask, mul-le-mul_right {m = limit} {n = n} weight more)) in
      let left : n % limit ≡ n - limit =
      omega (arith, ap (λ k. k % limit) (whole n limit more) ∙ add-mod_right (n - limit) limit ∙ mod-eq_of_lt (rest n limit few more)) in
      rw (one, is_digits, left) (omega arith)
]
  where
    whole : (n limit : ℕ) → limit ≤ n → n ≡ n - limit + limit
    whole n limit more = omega arith

    rest : (n limit : ℕ) → n < 2 * limit → limit ≤ n → n - limit < limit
    rest n limit few more = omega arith

-- The sum that the code computes.
pub sum_at : (first second carry v u b weight : ℕ) → first ≡ v * weight → second ≡ u * weight → carry ≡ b * weight
    → first + second + carry ≡ (v + u + b) * weight
sum_at first second carry v u b weight is_first is_second is_carry = omega (arith, is_first, is_second, is_carry)

-- Two to the power of 64 is a multiple of the weight of the place after the last.
pub whole_word : (lo hi : ℕ) → lo ≤ hi → hi < 14 → 2 ^ 64 ≡ 16 ^ (15 - hi) * (16 ^ (hi + 1 - lo) * 16 ^ lo)
whole_word lo hi ordered inside =
    let split : 16 ≡ 15 - hi + (hi + 1) = omega arith in
    ap (λ places. 16 ^ places) split ∙ pow-add 16 (15 - hi) (hi + 1) ∙ ap (λ n. 16 ^ (15 - hi) * n) (whole_weight lo hi ordered)

-- The result of a subtraction, modulo a limit, if more is subtracted than there is.
wrapped : (left limit more : ℕ) → 1 ≤ more → left ≤ limit → 0 < left → (more * limit - left) % limit + left ≡ limit
wrapped left limit more some fits positive =
    let split : more * limit - left ≡ (more - 1) * limit + (limit - left) = omega (arith, once more limit some) in
    omega (
      arith,
      ap (λ n. n % limit) split ∙ mul-add-mod_self_right (more - 1) limit (limit - left) ∙ mod-eq_of_lt (below limit left fits positive),
    )
  where
    once : (more limit : ℕ) → 1 ≤ more → more * limit ≡ (more - 1) * limit + limit
    once more limit some = let next : more ≡ more - 1 + 1 = omega arith in ap (λ n. n * limit) next ∙ opened (more - 1) limit
      where
        opened : (n limit : ℕ) → (n + 1) * limit ≡ n * limit + limit
        opened n limit = omega arith

    below : (limit left : ℕ) → left ≤ limit → 0 < left → limit - left < limit
    below limit left fits positive = omega arith

-- A difference of numbers in their places is in its place.
apart : (v t d weight : ℕ) → t ≡ v + d → t * weight ≡ v * weight + d * weight
apart v t d weight is = rw is (omega arith)

-- The difference modulo a limit, with a borrow and without one.
short_by : (first taken v t limit weight more word : ℕ) → 0 < weight → first ≡ v * weight → taken ≡ t * weight → v < t → t ≤ limit
    → 1 ≤ more → word ≡ more * (limit * weight) → (first + (word - taken)) % word / weight % limit + t ≡ v + limit
short_by first taken v t limit weight more word positive is_first is_taken short most some is_word =
    let left = t - v in
    let is_t : t ≡ v + left = omega arith in
    let once : 1 * limit ≤ more * limit = mul-le-mul_right limit some in
    let n = more * limit - left in
    let all : more * limit ≡ n + left = omega (arith, once, most) in
    let weighted : more * (limit * weight) ≡ n * weight + left * weight =
    sym (mul_assoc more limit weight) ∙ apart n (more * limit) left weight all in
    let some_left : weight ≤ left * weight = omega (arith, mul-le-mul_right {m = 1} {n = left} weight (omega (arith, short))) in
    let enough : t * weight ≤ more * (limit * weight) =
    omega (arith, mul-le-mul_right {m = t} {n = more * limit} weight (omega (arith, once, most)), mul_assoc more limit weight) in
    let is : first + (word - taken) ≡ n * weight =
    omega (arith, is_first, is_taken, is_word, weighted, enough, apart v t left weight is_t) in
    let small : n * weight < word = omega (arith, is_word, weighted, some_left, positive) in
    let read : (first + (word - taken)) % word / weight ≡ n =
    ap (λ k. k % word / weight) is ∙ ap (λ k. k / weight) (mod-eq_of_lt small) ∙ mul-div_cancel n positive in
    omega (arith, ap (λ k. k % limit) read, wrapped left limit more some (omega (arith, most)) (omega (arith, short)), is_t)

enough_by : (first taken v t limit weight more word : ℕ) → 0 < weight → first ≡ v * weight → taken ≡ t * weight → v < limit → t ≤ v
    → 1 ≤ more → word ≡ more * (limit * weight) → (first + (word - taken)) % word / weight % limit + t ≡ v
enough_by first taken v t limit weight more word positive is_first is_taken less enough some is_word =
    let d = v - t in
    let is_v : v ≡ t + d = omega arith in
    let whole : limit * weight ≤ more * (limit * weight) = omega (arith, mul-le-mul_right {m = 1} {n = more} (limit * weight) some) in
    let fits : v * weight + weight ≤ limit * weight = less_here v limit weight less in
    let parts : v * weight ≡ t * weight + d * weight = apart t v d weight is_v in
    let small : d * weight < word = omega (arith, is_word, whole, fits, parts, positive) in
    let is : first + (word - taken) ≡ d * weight + word = omega (arith, is_first, is_taken, is_word, whole, fits, parts) in
    let read : (first + (word - taken)) % word / weight ≡ d =
    ap (λ k. k % word / weight) is ∙ ap (λ k. k / weight) (add-mod_right (d * weight) word ∙ mod-eq_of_lt small)
    ∙ mul-div_cancel d positive in
    omega (arith, ap (λ k. k % limit) read ∙ mod-eq_of_lt (below d v limit less is_v), is_v)
  where
    below : (d v limit : ℕ) → v < limit → v ≡ t + d → d < limit
    below d v limit less is = omega arith

-- The difference modulo a limit, and whether it borrows.
pub difference_at : (first taken v t limit weight more word : ℕ) → 0 < weight → first ≡ v * weight → taken ≡ t * weight → v < limit
    → t ≤ limit → 1 ≤ more → word ≡ more * (limit * weight)
    → (first + (word - taken)) % word / weight % limit + t ≡ v + limit * carry_digit (nat_lt first taken)
difference_at first taken v t limit weight more word positive is_first is_taken less most some is_word = elim (cases_lt v t) [
  | inl short ↦
      let borrows : nat_lt first taken ≡ true = in_place-lt first taken v t weight positive is_first is_taken ∙ is_less_here v t short in
      rw borrows (short_by first taken v t limit weight more word positive is_first is_taken short most some is_word ∙ omega arith)
  | inr enough ↦
      let none : nat_lt first taken ≡ false = in_place-lt first taken v t weight positive is_first is_taken ∙ not_less_here v t enough in
      rw none (enough_by first taken v t limit weight more word positive is_first is_taken less enough some is_word ∙ omega arith)
]

-- The sixes of a span are the sixes of its number of places, in their places.
pub sixes_in_place : (lo hi mask sixes : ℕ) → lo ≤ hi → mask + 16 ^ lo ≡ 16 ^ (hi + 1) → 5 * sixes ≡ 2 * mask
    → sixes ≡ 6 * ones (hi + 1 - lo) * 16 ^ lo
sixes_in_place lo hi mask sixes ordered is_mask fifths =
    let count = hi + 1 - lo in
    two_fifths (ones count) (16 ^ count) (16 ^ lo) mask sixes (fifteen_ones count) (is_mask ∙ whole_weight lo hi ordered) fifths
  where
    two_fifths : (ones limit weight mask sixes : ℕ) → 15 * ones + 1 ≡ limit → mask + weight ≡ limit * weight → 5 * sixes ≡ 2 * mask
        → sixes ≡ 6 * ones * weight
    two_fifths ones limit weight mask sixes fifteen is fifths = omega (arith, rw (← fifteen) at is, fifths)

-- Bits of numbers in their places are in their places.
xor_in_place : (a b k : ℕ) → bit_xor (a * 2 ^ k) (b * 2 ^ k) ≡ bit_xor a b * 2 ^ k
xor_in_place a b k =
    let none : (n : ℕ) → n * 2 ^ k ≡ n * 2 ^ k + 0 = λ n. omega arith in
    ap (λ n. bit_xor n (b * 2 ^ k)) (none a) ∙ ap (bit_xor (a * 2 ^ k + 0)) (none b) ∙ xor_block k a b 0 0 (pow_pos k) (pow_pos k)
    ∙ omega arith

xor_at : (a b lo : ℕ) → bit_xor (a * 16 ^ lo) (b * 16 ^ lo) ≡ bit_xor a b * 16 ^ lo
xor_at a b lo = subst (λ weight. bit_xor (a * weight) (b * weight) ≡ bit_xor a b * weight) (bits_of_places lo) (xor_in_place a b (4 * lo))

-- Ones below the places of a number select nothing there.
ones_at : (n places lo : ℕ) → bit_and (n * 16 ^ lo) (ones (places + lo)) ≡ bit_and n (ones places) * 16 ^ lo
ones_at n places zero = search rules
ones_at n places (suc lo) =
    let word = n * 16 ^ suc lo in
    let more : places + suc lo ≡ suc (places + lo) = omega arith in
    let is : word ≡ 16 * (n * 16 ^ lo) = ap (λ weight. n * weight) (pow-succ' 16 lo) ∙ turned n (16 ^ lo) in
    let even : word % 2 ≡ 0 = omega (arith, is) in
    let down : word / 16 ≡ n * 16 ^ lo = omega (arith, is) in
    let weight : bit_and n (ones places) * 16 ^ suc lo ≡ 16 * (bit_and n (ones places) * 16 ^ lo) =
    ap (λ weight. bit_and n (ones places) * weight) (pow-succ' 16 lo) ∙ turned (bit_and n (ones places)) (16 ^ lo) in
    ap (λ k. bit_and word (ones k)) more ∙ ap (bit_and word) (ones_more (places + lo)) ∙ masked_more word (ones (places + lo))
    ∙ ap (λ k. word % 2 + 16 * bit_and k (ones (places + lo))) down
    ∙ omega (arith, even, weight, ones_at n places lo)
  where
    turned : (n weight : ℕ) → n * (16 * weight) ≡ 16 * (n * weight)
    turned n weight = omega arith

-- The change of a digit is visible in the digit below it.
changed_here : (x y c result places : ℕ) → c < 16 → bit_xor (bit_xor (bit_xor x y) c) result % 2 ≡ 0
    → bit_and (bit_xor (bit_xor (bit_xor x y) c) result) (ones (suc places)) ≡ 16 * changed x y result places
changed_here x y c result places small even =
    let word = bit_xor (bit_xor (bit_xor x y) c) result in
    let none : c / 16 ≡ 0 = omega arith in
    let without : bit_xor (bit_xor x y) c / 16 ≡ bit_xor x y / 16 =
    xor_shr (bit_xor x y) c 4 ∙ ap (bit_xor (bit_xor x y / 16)) none ∙ xor_zero_r (bit_xor x y / 16) in
    let down : word / 16 ≡ bit_xor (bit_xor x y) result / 16 =
    xor_shr (bit_xor (bit_xor x y) c) result 4 ∙ ap (λ n. bit_xor n (result / 16)) without ∙ sym (xor_shr (bit_xor x y) result 4) in
    ap (bit_and word) (ones_more places) ∙ masked_more word (ones places) ∙ ap (λ n. word % 2 + 16 * bit_and n (ones places)) down
    ∙ omega (arith, even)

pub carried_at : (first second carry result x y c r lo : ℕ) → lo < 14 → c < 16 → first ≡ x * 16 ^ lo → second ≡ y * 16 ^ lo
    → carry ≡ c * 16 ^ lo → result ≡ r * 16 ^ lo → bit_xor (bit_xor (bit_xor x y) c) r % 2 ≡ 0
    → carried_of first second carry result ≡ 16 * changed x y r (14 - lo) * 16 ^ lo
carried_at first second carry result x y c r lo inside small is_first is_second is_carry is_result even =
    let all : all_ones ≡ ones (suc (14 - lo) + lo) = ap ones (split lo inside) in
    let word = bit_xor (bit_xor (bit_xor x y) c) r in
    rw (is_first, is_second, is_carry, is_result) refl
    ∙ ap (λ n. bit_and (bit_xor (bit_xor n (c * 16 ^ lo)) (r * 16 ^ lo)) all_ones) (xor_at x y lo)
    ∙ ap (λ n. bit_and (bit_xor n (r * 16 ^ lo)) all_ones) (xor_at (bit_xor x y) c lo)
    ∙ ap (λ n. bit_and n all_ones) (xor_at (bit_xor (bit_xor x y) c) r lo) ∙ ap (bit_and (word * 16 ^ lo)) all
    ∙ ones_at word (suc (14 - lo)) lo ∙ ap (λ n. n * 16 ^ lo) (changed_here x y c r (14 - lo) small even)
  where
    split : (lo : ℕ) → lo < 14 → 15 ≡ suc (14 - lo) + lo
    split lo inside = omega arith

-- The carries of a sum with sixes are in their places.
pub tens_at : (first second carry sixes x y c m lo : ℕ) → lo < 14 → c < 16 → first ≡ x * 16 ^ lo → second ≡ y * 16 ^ lo
    → carry ≡ c * 16 ^ lo → sixes ≡ 6 * m * 16 ^ lo
    → carried_of first second carry (first + second + carry + sixes) ≡ 16 * tens x y c (6 * m) (14 - lo) * 16 ^ lo
tens_at first second carry sixes x y c m lo inside small is_first is_second is_carry is_sixes =
    let is_sum : first + second + carry + sixes ≡ (x + y + c + 6 * m) * 16 ^ lo = omega (arith, is_first, is_second, is_carry, is_sixes) in
    carried_at first second carry (first + second + carry + sixes) x y c (x + y + c + 6 * m) lo inside small
    is_first is_second is_carry is_sum (even_with_carry x y (x + y + c + 6 * m) c (3 * m) (omega arith))

-- The total in base 10 is in its places.
pub total_at : (first second carry sixes x y c m lo : ℕ) → lo < 14 → c < 16 → first ≡ x * 16 ^ lo → second ≡ y * 16 ^ lo
    → carry ≡ c * 16 ^ lo → sixes ≡ 6 * m * 16 ^ lo
    → decimal_total_of first second carry sixes ≡ total_with_tens x y c m (14 - lo) * 16 ^ lo
total_at first second carry sixes x y c m lo inside small is_first is_second is_carry is_sixes =
    let carried = tens_at first second carry sixes x y c m lo inside small is_first is_second is_carry is_sixes in
    put_together first second carry _ x y c (tens x y c (6 * m) (14 - lo)) (16 ^ lo) is_first is_second is_carry carried
  where
    put_together : (first second carry carried x y c tens weight : ℕ) → first ≡ x * weight → second ≡ y * weight → carry ≡ c * weight
        → carried ≡ 16 * tens * weight → first + second + carry + 3 * carried / 8 ≡ (x + y + c + 6 * tens) * weight
    put_together first second carry carried x y c tens weight is_first is_second is_carry is =
        omega (arith, is_first, is_second, is_carry, is)

-- The code finds no letter in a span from the number of its digits in their places: so each is a decimal digit.
pub span_decimal : (x : List ℕ) (lo hi mask sixes number : ℕ) (answer : Bool) → IsRegister 14 x → lo ≤ hi → hi < 14
    → mask + 16 ^ lo ≡ 16 ^ (hi + 1) → 5 * sixes ≡ 2 * mask → number ≡ value (part x lo hi) * 16 ^ lo
    → answer ≡ not (carried_of 0 number 0 (number + sixes) == 0) → answer ≡ false → AllByRecursion (λ digit. digit < 10) (part x lo hi)
span_decimal x lo hi mask sixes number answer register ordered inside is_mask fifths is told none =
    let none_of : carried_of 0 number 0 (number + sixes) ≡ 0 = no_carry answer _ told none in
    let n = value (part x lo hi) in
    let m = ones (hi + 1 - lo) in
    let plain : 0 + number + 0 + sixes ≡ number + sixes = omega arith in
    let carried : carried_of 0 number 0 (number + sixes) ≡ 16 * tens 0 n 0 (6 * m) (14 - lo) * 16 ^ lo =
    ap (carried_of 0 number 0) (sym plain)
    ∙ tens_at 0 number 0 sixes 0 n 0 m lo (omega (arith, ordered, inside)) (omega arith)
    (omega arith) is (omega arith) (sixes_in_place lo hi mask sixes ordered is_mask fifths) in
    part_decimal x lo hi n m (14 - lo) register ordered inside refl refl (omega (arith, ordered, inside))
    (nothing _ (tens 0 n 0 (6 * m) (14 - lo)) (16 ^ lo) (weight_positive lo) carried none_of)
  where
    nothing : (carried tens weight : ℕ) → 0 < weight → carried ≡ 16 * tens * weight → carried ≡ 0 → tens ≡ 0
    nothing carried zero weight positive is none = refl
    nothing carried (suc tens) weight positive is none = absurd (omega (arith, is, none, positive))

pub span_most : (x : List ℕ) (lo hi mask sixes number : ℕ) → IsRegister 14 x → lo ≤ hi → hi < 14 → mask + 16 ^ lo ≡ 16 ^ (hi + 1)
    → 5 * sixes ≡ 2 * mask → number ≡ value (part x lo hi) * 16 ^ lo → AllByRecursion (λ digit. digit < 10) (part x lo hi)
    → 2 * number ≤ 3 * sixes
span_most x lo hi mask sixes number register ordered inside is_mask fifths is each =
    let most = part_most x lo hi (value (part x lo hi)) (ones (hi + 1 - lo)) register ordered inside refl refl each in
    let placed : value (part x lo hi) * 16 ^ lo ≤ 9 * ones (hi + 1 - lo) * 16 ^ lo = mul-le-mul_right (16 ^ lo) most in
    omega (arith, is, placed, sixes_in_place lo hi mask sixes ordered is_mask fifths)

-- The whole difference modulo a limit is in its place; if there is a borrow, it continues above the span.
pub whole_difference : (first taken v t total weight word : ℕ) → 0 < weight → first ≡ v * weight → taken ≡ t * weight
    → word ≡ total * weight → v < total → t ≤ total
    → (left : ℕ)
    × ((first + (word - taken)) % word ≡ left * weight)
    × (left + t ≡ v + total * carry_digit (nat_lt first taken))
    × (left < total)
whole_difference first taken v t total weight word positive is_first is_taken is_word less most = elim (cases_lt v t) [
  | inl short ↦
      let borrows : nat_lt first taken ≡ true = in_place-lt first taken v t weight positive is_first is_taken ∙ is_less_here v t short in
      let parts : (v + total) * weight ≡ t * weight + (v + total - t) * weight =
      apart t (v + total) (v + total - t) weight (omega (arith, most)) in
      let room : v * weight + weight ≤ t * weight = less_here v t weight short in
      let enough : t * weight ≤ total * weight = mul-le-mul_right weight most in
      let is : first + (word - taken) ≡ (v + total - t) * weight = omega (arith, is_first, is_taken, is_word, parts, enough) in (
        v + total - t,
        mod-eq_of_lt (omega (arith, is, is_first, is_taken, is_word, room, enough, positive)) ∙ is,
        rw borrows (omega (arith, most)),
        omega (arith, short, most),
      )
  | inr enough ↦
      let none : nat_lt first taken ≡ false = in_place-lt first taken v t weight positive is_first is_taken ∙ not_less_here v t enough in
      let parts : v * weight ≡ t * weight + (v - t) * weight = apart t v (v - t) weight (omega (arith, enough)) in
      let room : v * weight + weight ≤ total * weight = less_here v total weight less in
      let is : first + (word - taken) ≡ (v - t) * weight + word = omega (arith, is_first, is_taken, is_word, parts, room) in (
        v - t,
        ap (λ k. k % word) is ∙ add-mod_right ((v - t) * weight) word ∙ mod-eq_of_lt (omega (arith, is_word, parts, room, positive)),
        rw none (omega (arith, enough)),
        omega (arith, less),
      )
]
