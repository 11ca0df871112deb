-- Sums and differences in base 10, as the code makes them of the numbers of a span in their places.
use Rattle.std.proofs.Common.{◌≡◌, ℕ, ◌+◌, ◌-◌, ◌*◌, ◌/◌, ◌%◌, ◌^◌, ◌<◌, ◌≤◌, Bool, nat_lt, List, slice_index, length, take}
use Rattle.std.proofs.Common.{drop, refl, sym, ap, subst, arith, inl, inr, ◌∙◌, rules}
use Rattle.std.proofs.Math.Nat.{mul-le-mul_right, mul_assoc, mul_comm, pow-le-pow_right}
use Rattle.std.proofs.lemmas.Bool.{cases_lt}
use Rattle.std.proofs.lemmas.List.Elements.{recursion_from_All}
use Rattle.std.proofs.lemmas.Nat.{pow-add, and_le_r}
use Rattle.std.specs.Int.RustNames.{bit_xor}
use Rattle.std.specs.List.{AllByRecursion}
use Rattle.h41_digits.specs.Register.{IsRegister, value, value_between}
use Rattle.h41_digits.specs.Spans.{in_places}
use Rattle.h41_digits.proofs.Packed.{weight_positive}
use Rattle.h41_digits.proofs.Values.{same_register}
use Rattle.h41_arith.specs.DigitRule.{DifferenceInto, HasCarries, HasResult, carry_digit, zeros}
use Rattle.h41_arith.specs.private.DigitOperations.{IsInParts, IsRuleTotal, RuleInto, carried_of, decimal_total_of, decimal_remainder_of}
use Rattle.h41_arith.specs.private.DigitOperations.{rule_of}
use Rattle.h41_arith.specs.declared.sums.DigitOperation.{DigitOperation}
use Rattle.h41_arith.specs.declared.sums.DigitOperation.TheVariants.{Add}
use Rattle.h41_arith.proofs.Carries.{carry_le, same_carry_bit}
use Rattle.h41_arith.proofs.Decimal.{ones, fifteen_ones, changed, total_with_tens, part_total_small, tens_result}
use Rattle.h41_arith.proofs.InPlace.{whole_weight, is_multiple, is_quotient, below_twice, difference_at, whole_word, carried_at, total_at}
use Rattle.h41_arith.proofs.InPlace.{whole_difference}
use Rattle.h41_arith.proofs.Parts.{part, part_at, part-lt, part-register, keeps_outside}
use Rattle.h41_arith.proofs.Remainders.{borrow_word, even_with_borrow, borrows_read, remainder_left, remainder_result}

-- A number with a 1 above it determines both.
same_parts : (a b limit p q : ℕ) → a < limit → b < limit → p ≤ 1 → q ≤ 1 → a + limit * p ≡ b + limit * q → (a ≡ b) × (p ≡ q)
same_parts a b limit p q a_small b_small p_bit q_bit whole = elim (cases_lt p q) [
  | inl less ↦
      let none : p ≡ 0 = omega (arith, q_bit) in
      let one : q ≡ 1 = omega (arith, q_bit) in
      absurd (omega (arith, a_small, rw (none, one) at whole))
  | inr more ↦ elim (cases_lt q p) [
    | inl less ↦
        let none : q ≡ 0 = omega (arith, p_bit) in
        let one : p ≡ 1 = omega (arith, p_bit) in
        absurd (omega (arith, b_small, rw (none, one) at whole))
    | inr other ↦
        let same : p ≡ q = omega arith in
        (omega (arith, rw same at whole), same)
  ]
]

-- The result of a rule has the same digits if another register provides the other places.
put_result : (rule : ℕ → ℕ → ℕ → ℕ → ℕ → Type 0) (into other x y z d : List ℕ) (carry_in told : Bool) (lo hi : ℕ) → IsRegister 14 z
    → lo ≤ hi → hi < 14 → HasResult (HasCarries rule) other x y carry_in lo hi d told → value_between z lo hi ≡ value_between d lo hi
    → take lo z ≡ take lo into → drop (hi + 1) z ≡ drop (hi + 1) into → HasResult (HasCarries rule) into x y carry_in lo hi z told
put_result rule into other x y z d carry_in told lo hi register ordered inside result whole below above =
    let digits =
    same_register (hi + 1 - lo) (part z lo hi) (part d lo hi) (part-register z lo hi register ordered inside)
    (part-register d lo hi result.register ordered inside) whole in
    let old = result.digits in record {
      register = register;
      digits = record {
        bit = old.bit;
        carries = old.carries;
        first = old.first;
        last = old.last;
        places = λ place from to.
            let same : slice_index d place ≡ slice_index z place =
            part_at d lo hi place from to ∙ ap (λ list. slice_index list (place - lo)) (sym digits) ∙ sym (part_at z lo hi place from to) in
            subst (λ digit.
            rule (slice_index x place) (slice_index y place) (slice_index old.carries place) digit (slice_index old.carries (place + 1)))
            same (old.places place from to);
      };
      outside = keeps_outside into z lo hi below above;
    }

-- A total is in its place, less than twice the weight of the place after the last, and determines the result in base 10: the register that
-- has its number in the span, with a 1 above it or not, is the one with the digits of the sum or the difference.
pub record Tells (operation : DigitOperation) (x y : List ℕ) (carry_in : Bool) (lo hi total : ℕ) : Type 0 where
  pub places : total % 16 ^ lo ≡ 0
  pub most : total < 2 * 16 ^ (hi + 1)
  pub result : (into z : List ℕ) (carry : Bool) → IsRegister 14 z → IsInParts (total / 16 ^ lo) lo hi z carry
      → take lo z ≡ take lo into → drop (hi + 1) z ≡ drop (hi + 1) into → RuleInto operation into x y carry_in lo hi z carry

-- The total of digits that were computed place by place.
below_twice_limit : (digits limit carry : ℕ) → digits < limit → carry ≤ 1 → digits + limit * carry < 2 * limit
below_twice_limit digits limit carry small bit = grind arith

pub rule_tells : (operation : DigitOperation) (x y : List ℕ) (carry_in : Bool) (lo hi total : ℕ) → lo ≤ hi → hi < 14
    → IsRuleTotal operation x y carry_in lo hi total → Tells operation x y carry_in lo hi total
rule_tells operation x y carry_in lo hi total ordered inside made =
    let limit = 16 ^ (hi + 1 - lo) in
    let digits = made.digits in
    let out = made.carry_out in
    let positive = weight_positive lo in
    let small = part-lt digits lo hi made.rule.register ordered inside in record {
      places = is_multiple total _ _ made.number;
      most =
          below_twice total _ limit (16 ^ lo) (16 ^ (hi + 1)) positive made.number
          (whole_weight lo hi ordered) (below_twice_limit _ limit (carry_digit out) small (carry_le out));
      result = λ into z carry register parts below above.
          let whole : value_between z lo hi + limit * carry_digit carry ≡ value_between digits lo hi + limit * carry_digit out =
          parts ∙ is_quotient total _ _ positive made.number in
          let same =
          same_parts _ _ limit (carry_digit carry) (carry_digit out)
          (part-lt z lo hi register ordered inside) small (carry_le carry) (carry_le out) whole in
          subst (λ told. RuleInto operation into x y carry_in lo hi z told) (sym (same_carry_bit carry out same.1))
          (put_result (rule_of operation 10) into zeros x y z digits carry_in
          out lo hi register ordered inside made.rule same.0 below above);
    }

-- The total of a sum of numbers, the first of which has no letter.
pub sum_tells : (x y : List ℕ) (carry_in : Bool) (lo hi first second carry sixes total : ℕ) → IsRegister 14 x → IsRegister 14 y → lo ≤ hi
    → hi < 14 → AllByRecursion (λ digit. digit < 10) (part x lo hi) → first ≡ value (part x lo hi) * 16 ^ lo
    → second ≡ value (part y lo hi) * 16 ^ lo → carry ≡ carry_digit carry_in * 16 ^ lo → sixes ≡ 6 * ones (hi + 1 - lo) * 16 ^ lo
    → total ≡ decimal_total_of first second carry sixes → Tells Add x y carry_in lo hi total
sum_tells x y carry_in lo hi first second carry sixes total p q ordered inside each is_first is_second is_carry is_sixes is_total =
    let few : hi + 1 - lo ≤ 14 - lo = omega (arith, ordered, inside) in
    let is : total
    ≡ total_with_tens (value (part x lo hi)) (value (part y lo hi)) (carry_digit carry_in) (ones (hi + 1 - lo)) (14 - lo) * 16 ^ lo =
    is_total
    ∙ total_at first second carry sixes _ _ _ _ lo (omega (arith, ordered, inside))
    (omega (arith, carry_le carry_in)) is_first is_second is_carry is_sixes in
    record {
      places = is_multiple total _ _ is;
      most =
          below_twice total _ (16 ^ (hi + 1 - lo)) (16 ^ lo) (16 ^ (hi + 1)) (weight_positive lo) is
          (whole_weight lo hi ordered) (part_total_small x y carry_in lo hi (14 - lo) p q ordered inside each few);
      result = λ into z carry register parts below above.
          tens_result into x y z carry_in carry lo hi (14 - lo) (value_between z lo hi) (value_between x lo hi) (value_between y lo hi)
          (16 ^ (hi + 1 - lo)) (ones (hi + 1 - lo)) p q register ordered inside each refl refl refl refl refl few
          (parts ∙ is_quotient total _ _ (weight_positive lo) is) below above;
    }

-- There is an even number of weights above a span, with room for six in each place.
even_above : (hi : ℕ) → hi < 14 → 16 ^ (15 - hi) ≡ 2 * (8 * 16 ^ (14 - hi))
even_above hi inside =
    let next : 15 - hi ≡ 1 + (14 - hi) = omega arith in
    ap (λ places. 16 ^ places) next ∙ pow-add 16 1 (14 - hi) ∙ omega arith

halved : (more limit half out : ℕ) → more ≡ 2 * half → more * limit * out ≡ 2 * (limit * (half * out))
halved more limit half out is = rw is (omega arith)

six_fit : (lo hi bits : ℕ) → lo ≤ hi → hi < 14 → bits ≤ ones (14 - lo) → 6 * bits ≤ 16 ^ (15 - hi) * 16 ^ (hi + 1 - lo)
six_fit lo hi bits ordered inside few =
    let whole : 16 ^ (15 - hi) * 16 ^ (hi + 1 - lo) ≡ 16 ^ (16 - lo) =
    sym (pow-add 16 (15 - hi) (hi + 1 - lo)) ∙ ap (λ places. 16 ^ places) (omega arith) in
    omega (arith, few, fifteen_ones (14 - lo), whole, pow-le-pow_right {n = 16} (omega arith) {i = 14 - lo} {j = 16 - lo} (omega arith))

-- The difference of a span's numbers in a word, minus six at each digit that borrows.
pub difference_tells : (into x y z : List ℕ) (borrow_in : Bool) (lo hi first second borrow number : ℕ) → IsRegister 14 x → IsRegister 14 y
    → IsRegister 14 z → lo ≤ hi → hi < 14 → AllByRecursion (λ digit. digit < 10) (part y lo hi) → first ≡ value (part x lo hi) * 16 ^ lo
    → second ≡ value (part y lo hi) * 16 ^ lo → borrow ≡ carry_digit borrow_in * 16 ^ lo → number ≡ decimal_remainder_of first second borrow
    → value_between z lo hi ≡ in_places number lo hi → take lo z ≡ take lo into → drop (hi + 1) z ≡ drop (hi + 1) into
    → DifferenceInto 10 into x y borrow_in lo hi z (nat_lt first (second + borrow))
difference_tells into x y z borrow_in lo hi first second borrow number p q r
    ordered inside each is_first is_second is_borrow is_number is_z below above =
    let a = part-register x lo hi p ordered inside in
    let b = part-register y lo hi q ordered inside in
    let v = value (part x lo hi) in
    let u = value (part y lo hi) in
    let c = carry_digit borrow_in in
    let count = hi + 1 - lo in
    let limit = 16 ^ count in
    let weight = 16 ^ lo in
    let more = 16 ^ (15 - hi) in
    let total = more * limit in
    let taken = second + borrow in
    let out = carry_digit (nat_lt first taken) in
    let difference = (first + (2 ^ 64 - taken)) % 2 ^ 64 in
    let positive = weight_positive lo in
    let limit_positive : 0 < limit = weight_positive count in
    let some : 1 ≤ more = weight_positive (15 - hi) in
    let bit : c ≤ 1 = carry_le borrow_in in
    let is_taken : taken ≡ (u + c) * weight = omega (arith, is_second, is_borrow) in
    let is_word : 2 ^ 64 ≡ more * (limit * weight) = whole_word lo hi ordered inside in
    let is_whole : 2 ^ 64 ≡ total * weight = is_word ∙ sym (mul_assoc more limit weight) in
    let v_small : v < limit = part-lt x lo hi p ordered inside in
    let most : u + c ≤ limit = omega (arith, part-lt y lo hi q ordered inside, bit) in
    let once : limit ≤ total = omega (arith, mul-le-mul_right {m = 1} {n = more} limit some) in
    let left =
    whole_difference first taken v (u + c) total weight (2 ^ 64) positive is_first
    is_taken is_whole (omega (arith, v_small, once)) (omega (arith, most, once)) in
    let here : left.0 % limit + (u + c) ≡ v + limit * out =
    ap (λ n. n % limit + (u + c)) (sym (is_quotient difference left.0 weight positive left.1))
    ∙ difference_at first taken v (u + c) limit weight more (2 ^ 64) positive is_first is_taken v_small most some is_word in
    let half = 8 * 16 ^ (14 - hi) * out in
    let doubled : left.0 + u + c ≡ v + 2 * (limit * half) =
    omega (arith, left.2, halved more limit (8 * 16 ^ (14 - hi)) out (even_above hi inside)) in
    let bits = changed v u left.0 (14 - lo) in
    let carried : carried_of first second borrow difference ≡ 16 * bits * weight =
    carried_at first second borrow difference v u c left.0 lo (omega (arith, ordered, inside)) (omega (arith, bit))
    is_first is_second is_borrow left.1 (even_with_borrow v u left.0 c (limit * half) (sym doubled)) in
    let six : 3 * carried_of first second borrow difference / 8 ≡ 6 * bits * weight = eighth _ bits weight carried in
    let rest =
    whole_difference difference (6 * bits * weight) left.0 (6 * bits) total weight (2 ^ 64) positive left.1 refl is_whole
    left.3 (six_fit lo hi bits ordered inside (and_le_r (bit_xor (bit_xor v u) left.0 / 16) (ones (14 - lo)))) in
    let over = carry_digit (nat_lt difference (6 * bits * weight)) in
    let is_rest : number ≡ rest.0 * weight = is_number ∙ ap (λ n. (difference + (2 ^ 64 - n)) % 2 ^ 64) six ∙ rest.1 in
    let is_part : value (part z lo hi) ≡ rest.0 % limit = is_z ∙ ap (λ n. n % limit) (is_quotient number rest.0 weight positive is_rest) in
    let sized : 16 ^ length (part y lo hi) ≡ limit = ap (λ places. 16 ^ places) b.size in
    let read : bits % limit ≡ borrow_word (part x lo hi) (part y lo hi) c = ap (λ n. bits % n) (sym sized)
    ∙ borrows_read (part x lo hi) (part y lo hi) c left.0 half (14 - lo) (recursion_from_All _ _ a.each) (recursion_from_All _ _ b.each)
    (a.size ∙ sym b.size) (omega (arith, b.size, ordered, inside)) bit (doubled ∙ ap (λ n. v + 2 * (n * half)) (sym sized)) in
    remainder_result into x y z borrow_in (nat_lt first taken) lo hi p q r ordered inside each
    (remainder_left (part x lo hi) (part y lo hi) c out left.0 rest.0 bits limit more
    over _ (recursion_from_All _ _ a.each) each (a.size ∙ sym b.size) bit (sym sized)
    (omega (arith, here)) read (rest.2 ∙ ap (λ n. left.0 + n * over) (mul_comm more limit)) is_part limit_positive) below above
  where
    eighth : (carried bits weight : ℕ) → carried ≡ 16 * bits * weight → 3 * carried / 8 ≡ 6 * bits * weight
    eighth carried bits weight is = omega (arith, is)

-- The word that the code computes from the number of the digits.
pub total_with : (digits : List ℕ) (lo hi number next : ℕ) → lo ≤ hi → number ≡ value_between digits lo hi * 16 ^ lo → next ≡ 16 ^ (hi + 1)
    → number + next ≡ (value_between digits lo hi + 16 ^ (hi + 1 - lo) * 1) * 16 ^ lo
total_with digits lo hi number next ordered is is_next =
    omega (arith, is, is_next, whole_weight lo hi ordered, opened (value_between digits lo hi) (16 ^ (hi + 1 - lo)) (16 ^ lo))
  where
    opened : (n limit weight : ℕ) → (n + limit * 1) * weight ≡ n * weight + limit * weight
    opened n limit weight = omega arith

pub total_without : (digits : List ℕ) (lo hi number : ℕ) → number ≡ value_between digits lo hi * 16 ^ lo
    → number ≡ (value_between digits lo hi + 16 ^ (hi + 1 - lo) * 0) * 16 ^ lo
total_without digits lo hi number is = search rules
