-- In base 16 a sum or a difference of numbers is that of their digits.
use Rattle.std.proofs.Common.{◌≡◌, ℕ, ◌+◌, ◌-◌, ◌*◌, ◌^◌, ◌<◌, ◌≤◌, Bool, List, [], ◌∷◌, length, take, drop, refl, sym, subst, arith, inl}
use Rattle.std.proofs.Common.{inr, ◌∙◌}
use Rattle.std.proofs.Math.Nat.{pow-succ'}
use Rattle.std.proofs.lemmas.Bool.{cases_lt}
use Rattle.std.specs.List.{AllByRecursion}
use Rattle.h41_digits.specs.Register.{IsRegister, value}
use Rattle.h41_digits.specs.Packed.{value-cons}
use Rattle.h41_arith.specs.DigitRule.{SumDigit, DifferenceDigit, SumInto, DifferenceInto, carry_digit}
use Rattle.h41_arith.proofs.Steps.{Steps, steps_none, steps_more, has_carries}
use Rattle.h41_arith.proofs.Parts.{part, part-register, keeps_outside}
use Rattle.h41_arith.proofs.Carries.{carry_le}
use Rattle.std.proofs.lemmas.List.Elements.{recursion_from_All}

abbrev Digits : List ℕ → Type 0
Digits digits = AllByRecursion (λ digit. digit < 16) digits

-- The lowest digit of a sum, and the carry into the sum of the others.
abbrev SumStep : ℕ → ℕ → ℕ → ℕ → ℕ → ℕ → ℕ → Type 0
SumStep a b carry d x y z = (next : ℕ) × (next ≤ 1) × SumDigit 16 a b carry d next × (z ≡ x + y + next)

sum_step : (a b carry d x y z : ℕ) → a < 16 → b < 16 → carry ≤ 1 → d < 16 → d + 16 * z ≡ a + 16 * x + (b + 16 * y) + carry
    → SumStep a b carry d x y z
sum_step a b carry d x y z a_small b_small bit d_small whole = elim (cases_lt (a + b + carry) 16) [
  | inl less ↦ (0, omega arith, inl (less, omega arith, refl), omega arith)
  | inr more ↦ (1, omega arith, inr (more, omega arith, refl), omega arith)
]

over : (d z weight out rest : ℕ) → d + 16 * z + (16 * weight) * out ≡ rest → d + 16 * (z + weight * out) ≡ rest
over d z weight out rest whole = omega (arith, whole)

pub sum_steps : (x y z : List ℕ) (carry out : ℕ) → Digits x → Digits y → Digits z → length x ≡ length z → length y ≡ length z → carry ≤ 1
    → value z + 16 ^ length z * out ≡ value x + value y + carry → Steps (SumDigit 16) x y carry z (length z) out
sum_steps [] [] [] carry out p q r same_x same_y bit whole = steps_none _ _ _ _ carry out (omega (arith, whole))
sum_steps [] (b ∷ y) [] carry out p q r same_x same_y bit whole = absurd (omega (arith, same_y))
sum_steps (a ∷ x) y [] carry out p q r same_x same_y bit whole = absurd (omega (arith, same_x))
sum_steps [] y (d ∷ z) carry out p q r same_x same_y bit whole = absurd (omega (arith, same_x))
sum_steps (a ∷ x) [] (d ∷ z) carry out p q r same_x same_y bit whole = absurd (omega (arith, same_y))
sum_steps (a ∷ x) (b ∷ y) (d ∷ z) carry out p q r same_x same_y bit whole =
    let opened : d + 16 * value z + (16 * 16 ^ length z) * out ≡ a + 16 * value x + (b + 16 * value y) + carry =
    rw (value-cons d z, value-cons a x, value-cons b y, pow-succ' 16 (length z)) at whole in
    let step =
    sum_step a b carry d (value x) (value y) (value z + 16 ^ length z * out)
    p.0 q.0 bit r.0 (over d (value z) (16 ^ length z) out _ opened) in
    steps_more _ a b d x y z carry step.0 (length z) out step.2
    (sum_steps x y z step.0 out p.1 q.1 r.1 (omega (arith, same_x)) (omega (arith, same_y)) step.1 step.3)

-- The lowest digit of a difference, and the borrow into the difference of the others.
abbrev DifferenceStep : ℕ → ℕ → ℕ → ℕ → ℕ → ℕ → ℕ → ℕ → Type 0
DifferenceStep a b borrow d x y z above = (next : ℕ) × (next ≤ 1) × DifferenceDigit 16 a b borrow d next × (z + y + next ≡ x + above)

difference_step : (a b borrow d x y z above : ℕ) → a < 16 → b < 16 → borrow ≤ 1 → d < 16
    → d + 16 * z + (b + 16 * y) + borrow ≡ a + 16 * (x + above) → DifferenceStep a b borrow d x y z above
difference_step a b borrow d x y z above a_small b_small bit d_small whole = elim (cases_lt a (b + borrow)) [
  | inl less ↦ (1, omega arith, inr (less, omega arith, refl), omega arith)
  | inr more ↦ (0, omega arith, inl (more, omega arith, refl), omega arith)
]

over_left : (a x weight out rest : ℕ) → rest ≡ a + 16 * x + (16 * weight) * out → rest ≡ a + 16 * (x + weight * out)
over_left a x weight out rest whole = omega (arith, whole)

pub difference_steps : (x y z : List ℕ) (borrow out : ℕ) → Digits x → Digits y → Digits z → length x ≡ length z → length y ≡ length z
    → borrow ≤ 1 → value z + value y + borrow ≡ value x + 16 ^ length z * out → Steps (DifferenceDigit 16) x y borrow z (length z) out
difference_steps [] [] [] borrow out p q r same_x same_y bit whole = steps_none _ _ _ _ borrow out (omega (arith, whole))
difference_steps [] (b ∷ y) [] borrow out p q r same_x same_y bit whole = absurd (omega (arith, same_y))
difference_steps (a ∷ x) y [] borrow out p q r same_x same_y bit whole = absurd (omega (arith, same_x))
difference_steps [] y (d ∷ z) borrow out p q r same_x same_y bit whole = absurd (omega (arith, same_x))
difference_steps (a ∷ x) [] (d ∷ z) borrow out p q r same_x same_y bit whole = absurd (omega (arith, same_y))
difference_steps (a ∷ x) (b ∷ y) (d ∷ z) borrow out p q r same_x same_y bit whole =
    let opened : d + 16 * value z + (b + 16 * value y) + borrow ≡ a + 16 * value x + (16 * 16 ^ length z) * out =
    rw (value-cons d z, value-cons a x, value-cons b y, pow-succ' 16 (length z)) at whole in
    let step =
    difference_step a b borrow d (value x) (value y) (value z) (16 ^ length z * out)
    p.0 q.0 bit r.0 (over_left a (value x) (16 ^ length z) out _ opened) in
    steps_more _ a b d x y z borrow step.0 (length z) out step.2
    (difference_steps x y z step.0 out p.1 q.1 r.1 (omega (arith, same_x)) (omega (arith, same_y)) step.1 step.3)

-- The result of a sum of two numbers that was written to a span.
pub sum_result : (into x y z : List ℕ) (carry_in carry : Bool) (lo hi : ℕ) → IsRegister 14 x → IsRegister 14 y → IsRegister 14 z → lo ≤ hi
    → hi < 14
    → value (part z lo hi) + 16 ^ (hi + 1 - lo) * carry_digit carry ≡ value (part x lo hi) + value (part y lo hi) + carry_digit carry_in
    → take lo z ≡ take lo into → drop (hi + 1) z ≡ drop (hi + 1) into → SumInto 16 into x y carry_in lo hi z carry
sum_result into x y z carry_in carry lo hi p q r ordered inside whole below above =
    let a = part-register x lo hi p ordered inside in
    let b = part-register y lo hi q ordered inside in
    let d = part-register z lo hi r ordered inside in
    let sized : value (part z lo hi) + 16 ^ length (part z lo hi) * carry_digit carry
    ≡ value (part x lo hi) + value (part y lo hi) + carry_digit carry_in =
    rw d.size whole in
    let steps =
    sum_steps (part x lo hi) (part y lo hi) (part z lo hi) (carry_digit carry_in) (carry_digit carry)
    (recursion_from_All _ _ a.each) (recursion_from_All _ _ b.each) (recursion_from_All _ _ d.each)
    (a.size ∙ sym d.size) (b.size ∙ sym d.size) (carry_le carry_in) sized in record {
      register = r;
      digits = has_carries (SumDigit 16) x y z lo hi (carry_digit carry_in) (carry_digit carry) (carry_le carry_in) ordered
          (subst
          (λ count. Steps (SumDigit 16) (part x lo hi) (part y lo hi) (carry_digit carry_in) (part z lo hi) count (carry_digit carry))
          d.size steps);
      outside = keeps_outside into z lo hi below above;
    }

-- The result of a difference of two numbers that was written to a span.
pub difference_result : (into x y z : List ℕ) (borrow_in borrow : Bool) (lo hi : ℕ) → IsRegister 14 x → IsRegister 14 y → IsRegister 14 z
    → lo ≤ hi → hi < 14
    → value (part z lo hi) + value (part y lo hi) + carry_digit borrow_in ≡ value (part x lo hi) + 16 ^ (hi + 1 - lo) * carry_digit borrow
    → take lo z ≡ take lo into → drop (hi + 1) z ≡ drop (hi + 1) into → DifferenceInto 16 into x y borrow_in lo hi z borrow
difference_result into x y z borrow_in borrow lo hi p q r ordered inside whole below above =
    let a = part-register x lo hi p ordered inside in
    let b = part-register y lo hi q ordered inside in
    let d = part-register z lo hi r ordered inside in
    let sized : value (part z lo hi) + value (part y lo hi) + carry_digit borrow_in
    ≡ value (part x lo hi) + 16 ^ length (part z lo hi) * carry_digit borrow =
    rw d.size whole in
    let steps =
    difference_steps (part x lo hi) (part y lo hi) (part z lo hi) (carry_digit borrow_in) (carry_digit borrow)
    (recursion_from_All _ _ a.each) (recursion_from_All _ _ b.each) (recursion_from_All _ _ d.each)
    (a.size ∙ sym d.size) (b.size ∙ sym d.size) (carry_le borrow_in) sized in record {
      register = r;
      digits = has_carries (DifferenceDigit 16) x y z lo hi (carry_digit borrow_in) (carry_digit borrow) (carry_le borrow_in) ordered
          (subst (λ count.
          Steps (DifferenceDigit 16) (part x lo hi) (part y lo hi) (carry_digit borrow_in) (part z lo hi) count (carry_digit borrow))
          d.size steps);
      outside = keeps_outside into z lo hi below above;
    }
