-- The digits and carries of the digit rule, found from the lowest place up.
use Rattle.std.proofs.Common.{◌≡◌, ◌≢◌, ℕ, zero, suc, ◌+◌, ◌-◌, ◌%◌, ◌<◌, ◌≤◌, Bool, true, false, List, slice_index, refl, ap₂, ◌∙◌, subst}
use Rattle.std.proofs.Common.{arith, inl, inr, set, length, get_or-set_other}
use Rattle.std.proofs.Math.ListN.{length-set}
use Rattle.std.proofs.lemmas.Bool.{cases_lt, cond_both}
use Rattle.std.proofs.lemmas.List.Elements.{All-set}
use Rattle.h41_digits.specs.Register.{IsRegister}
use Rattle.h41_arith.specs.DigitRule.{SumDigit, DifferenceDigit, HasCarries, HasResult, base_of, carry_digit}
use Rattle.h41_arith.specs.DigitRuleLaws.{IsDetermined}
use Rattle.h41_arith.proofs.Carries.{CarriedTo, carried_none, carried_more, carried_all, carry_le}
use Rattle.h41_laws_words.specs.DigitAnswers.{HasOneResult}

-- A place has its digit and its carry.
pub record HasDigit (rule : ℕ → ℕ → ℕ → ℕ → ℕ → Type 0) (x y carry : ℕ) : Type 0 where
  pub digit : ℕ
  pub out : ℕ
  pub small : digit < 16
  pub bit : out ≤ 1
  pub holds : rule x y carry digit out

abbrev pub GivesDigits : (ℕ → ℕ → ℕ → ℕ → ℕ → Type 0) → Type 0
GivesDigits rule = (x y carry : ℕ) → x < 16 → HasDigit rule x y carry

base_small : (decimal : Bool) → base_of decimal ≤ 16
base_small decimal = cond_both decimal _ _ (λ base. base ≤ 16) (λ _. omega arith) (λ _. omega arith)

sum_digit : (base : ℕ) → base ≤ 16 → GivesDigits (SumDigit base)
sum_digit base small x y carry digit = elim (cases_lt (x + y + carry) base) [
  | inl less ↦ record { digit = x + y + carry; out = 0; small = omega arith; bit = omega arith; holds = inl (less, refl, refl) }
  | inr more ↦
      record { digit = (x + y + carry - base) % 16; out = 1; small = omega arith; bit = omega arith; holds = inr (more, refl, refl) }
]

difference_digit : (base : ℕ) → GivesDigits (DifferenceDigit base)
difference_digit base x y borrow digit = elim (cases_lt x (y + borrow)) [
  | inl less ↦ record {
    digit = (x + base + 16 - (y + borrow)) % 16;
    out = 1;
    small = omega arith;
    bit = omega arith;
    holds = inr (less, refl, refl);
  }
  | inr more ↦ record { digit = x - (y + borrow); out = 0; small = omega arith; bit = omega arith; holds = inl (more, refl, refl) }
]

pub sum_gives : (decimal : Bool) → GivesDigits (SumDigit (base_of decimal))
sum_gives decimal = sum_digit (base_of decimal) (base_small decimal)

pub difference_gives : (decimal : Bool) → GivesDigits (DifferenceDigit (base_of decimal))
difference_gives decimal = difference_digit (base_of decimal)

-- So many places are done.
record SoFar (rule : ℕ → ℕ → ℕ → ℕ → ℕ → Type 0) (into x y : List ℕ) (carry_in lo next : ℕ) : Type 0 where
  z : List ℕ
  carry : ℕ
  bit : carry ≤ 1
  register : IsRegister 14 z
  carried : CarriedTo rule x y carry_in lo next z carry
  below : (place : ℕ) → place < lo → slice_index z place ≡ slice_index into place
  above : (place : ℕ) → next ≤ place → slice_index z place ≡ slice_index into place

one_more : (rule : ℕ → ℕ → ℕ → ℕ → ℕ → Type 0) → GivesDigits rule → (into x y : List ℕ) (carry_in lo next : ℕ)
    → IsRegister 14 x → lo ≤ next → next < 14
    → SoFar rule into x y carry_in lo next → SoFar rule into x y carry_in lo (next + 1)
one_more rule gives into x y carry_in lo next valid from inside so_far =
    let size : length x ≡ 14 = valid.size in
    let step = gives (slice_index x next) (slice_index y next) so_far.carry (valid.each next 0 (omega arith)) in
    let long : length so_far.z ≡ 14 = so_far.register.size in
    record {
      z = set so_far.z next step.digit;
      carry = step.out;
      bit = step.bit;
      register = record {
        size = length-set so_far.z next step.digit ∙ so_far.register.size;
        each = All-set (λ digit. digit < 16) so_far.z next step.digit step.small so_far.register.each;
      };
      carried =
          carried_more rule x y carry_in lo next so_far.z so_far.carry step.digit step.out (omega arith) from so_far.carried step.holds;
      below = λ place low.
          let other : place ≢ next = omega arith in
          get_or-set_other so_far.z next place step.digit 0 other ∙ so_far.below place low;
      above = λ place high.
          let other : place ≢ next = omega arith in
          get_or-set_other so_far.z next place step.digit 0 other ∙ so_far.above place (omega arith);
    }

so_many : (rule : ℕ → ℕ → ℕ → ℕ → ℕ → Type 0) → GivesDigits rule → (into x y : List ℕ) (carry_in lo count : ℕ)
    → IsRegister 14 into → IsRegister 14 x → carry_in ≤ 1 → lo + count ≤ 14
    → SoFar rule into x y carry_in lo (lo + count)
so_many rule gives into x y carry_in lo zero valid x_valid bit inside =
    let at : lo ≡ lo + 0 = omega arith in
    let none : SoFar rule into x y carry_in lo lo = record {
      z = into;
      carry = carry_in;
      bit = bit;
      register = valid;
      carried = carried_none rule x y carry_in lo into;
      below = λ place low. refl;
      above = λ place high. refl;
    } in
    subst (λ next. SoFar rule into x y carry_in lo next) at none
so_many rule gives into x y carry_in lo (suc count) valid x_valid bit inside =
    let at : lo + count + 1 ≡ lo + suc count = omega arith in subst (λ next. SoFar rule into x y carry_in lo next) at
    (one_more rule gives into x y carry_in lo (lo + count) x_valid (omega arith) (omega arith)
    (so_many rule gives into x y carry_in lo count valid x_valid bit (omega arith)))

-- A carry as a bit.
record AsBit (carry : ℕ) : Type 0 where
  bit : Bool
  is : carry ≡ carry_digit bit

as_bit : (carry : ℕ) → carry ≤ 1 → AsBit carry
as_bit zero small = record { bit = false; is = refl }
as_bit (suc carry) small = record { bit = true; is = omega arith }

abbrev pair : List ℕ → Bool → List ℕ × Bool
pair z carry = (z, carry)

pub one_result : (rule : ℕ → ℕ → ℕ → ℕ → ℕ → Type 0) → GivesDigits rule → IsDetermined (HasCarries rule) → HasOneResult (HasCarries rule)
one_result rule gives determined into x y carry_in lo hi valid x_valid y_valid ordered inside =
    let at : lo + (hi + 1 - lo) ≡ hi + 1 = omega arith in
    let all : SoFar rule into x y (carry_digit carry_in) lo (hi + 1) =
    subst (λ next. SoFar rule into x y (carry_digit carry_in) lo next) at
    (so_many rule gives into x y (carry_digit carry_in) lo (hi + 1 - lo) valid x_valid (carry_le carry_in) (omega arith)) in
    let out = as_bit all.carry all.bit in
    let carried : HasCarries rule x y (carry_digit carry_in) lo hi all.z (carry_digit out.bit) =
    subst (λ (c : ℕ). HasCarries rule x y (carry_digit carry_in) lo hi all.z c) out.is
    (carried_all rule x y (carry_digit carry_in) lo hi all.z all.carry (carry_le carry_in) all.carried) in
    let result : HasResult (HasCarries rule) into x y carry_in lo hi all.z out.bit = record {
      register = all.register;
      digits = carried;
      outside = record { below = all.below; above = λ place high. all.above place (omega arith) };
    } in
    record {
      answer = (all.z, out.bit);
      right = result;
      only = λ other holds.
          let same = determined into x y other.0 all.z carry_in other.1 out.bit lo hi ordered holds result in
          ap₂ pair same.0 same.1;
    }
