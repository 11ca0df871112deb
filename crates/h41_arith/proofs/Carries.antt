-- The carries of the digit rule: they are determined from below, and go on by one place.
use Rattle.std.proofs.Common.{◌≡◌, ℕ, zero, suc, ◌+◌, ◌-◌, ◌<◌, ◌≤◌, Bool, List, [], ◌∷◌, ◌++◌, length, slice_index, ap}
use Rattle.std.proofs.Common.{arith, inl, inr, sym, subst, ◌∙◌, replicate, set, length-append, get_or-set_other, get_or-set_same, ◌≢◌}
use Rattle.std.proofs.Common.{rules}
use Rattle.std.proofs.lemmas.List.{length-replicate, get_or_append_left, ext_get_or}
use Rattle.std.proofs.lemmas.Bool.{cases_lt}
use Rattle.std.proofs.Math.Seq.{get_or-append_seam}
use Rattle.h41_arith.specs.DigitRule.{SumDigit, DifferenceDigit, HasCarries, carry_digit}
use Rattle.h41_arith.specs.DigitRuleLaws.{IsDetermined}

-- A rule of one place that determines the digit and the carry out.
abbrev pub Determines : (ℕ → ℕ → ℕ → ℕ → ℕ → Type 0) → Type 0
Determines rule = (x y carry z out w other : ℕ) → rule x y carry z out → rule x y carry w other → (z ≡ w) × (out ≡ other)

pub SumDigit-determines : (base : ℕ) → Determines (SumDigit base)
SumDigit-determines base x y carry z out w other known more = grind arith

pub DifferenceDigit-determines : (base : ℕ) → Determines (DifferenceDigit base)
DifferenceDigit-determines base x y carry z out w other known more = grind arith

module _ (rule : ℕ → ℕ → ℕ → ℕ → ℕ → Type 0) (determines : Determines rule) (x y z w : List ℕ) (carry_in lo hi out other : ℕ)
    (a : HasCarries rule x y carry_in lo hi z out) (b : HasCarries rule x y carry_in lo hi w other) where
  -- Two lists of carries agree at each place above lo.
  same_carry : (above : ℕ) → lo + above ≤ hi + 1 → slice_index a.carries (lo + above) ≡ slice_index b.carries (lo + above)
  same_carry zero inside = search rules
  same_carry (suc above) inside = search (rules, same_carry above (omega arith))

  pub same_digit : (place : ℕ) → lo ≤ place → place ≤ hi → slice_index z place ≡ slice_index w place
  same_digit place from to =
      let at : lo + (place - lo) ≡ place = omega arith in
      let below = subst (λ index. slice_index a.carries index ≡ slice_index b.carries index) at (same_carry (place - lo) (omega arith)) in
      let q =
      subst (λ carry. rule (slice_index x place) (slice_index y place) carry (slice_index w place) (slice_index b.carries (place + 1)))
      (sym below) (b.places place from to) in
      (determines _ _ _ _ _ _ _ (a.places place from to) q).0

  pub same_out : lo ≤ hi → out ≡ other
  same_out ordered =
      let at : lo + (hi + 1 - lo) ≡ hi + 1 = omega arith in
      sym a.last ∙ subst (λ index. slice_index a.carries index ≡ slice_index b.carries index) at (same_carry (hi + 1 - lo) (omega arith))
      ∙ b.last

-- The rule holds at the places from lo up to, but not including, next, and carry is the carry into next.
pub record CarriedTo (rule : ℕ → ℕ → ℕ → ℕ → ℕ → Type 0) (x y : List ℕ) (carry_in lo next : ℕ) (z : List ℕ) (carry : ℕ) : Type 0 where
  pub carries : List ℕ
  pub size : length carries ≡ next + 1
  pub first : slice_index carries lo ≡ carry_in
  pub last : slice_index carries next ≡ carry
  pub places : (place : ℕ) → lo ≤ place → place < next
      → rule (slice_index x place) (slice_index y place) (slice_index carries place) (slice_index z place) (slice_index carries (place + 1))

-- Before the first place, nothing needs to hold.
pub carried_none : (rule : ℕ → ℕ → ℕ → ℕ → ℕ → Type 0) (x y : List ℕ) (carry_in lo : ℕ) (z : List ℕ)
    → CarriedTo rule x y carry_in lo lo z carry_in
carried_none rule x y carry_in lo z = record {
  carries = replicate lo 0 ++ carry_in ∷ [];
  size = length-append (replicate lo 0) (carry_in ∷ []) ∙ ap (λ size. size + 1) (length-replicate lo 0);
  first = at_end;
  last = at_end;
  places = λ place from below. absurd (omega arith);
}
  where
    at_end : slice_index (replicate lo 0 ++ carry_in ∷ []) lo ≡ carry_in
    at_end =
        subst (λ index. slice_index (replicate lo 0 ++ carry_in ∷ []) index ≡ carry_in)
        (length-replicate lo 0) (get_or-append_seam (replicate lo 0) carry_in [] 0)

moved : (rule : ℕ → ℕ → ℕ → ℕ → ℕ → Type 0) (p q a b c d e f : ℕ) → d ≡ a → e ≡ b → f ≡ c → rule p q a b c → rule p q d e f
moved rule p q a b c d e f carry digit out holds = rw (carry, digit, out) holds

kept : (carries : List ℕ) (out index : ℕ) → index < length carries → slice_index (carries ++ out ∷ []) index ≡ slice_index carries index
kept carries out index within = get_or_append_left carries (out ∷ []) 0 index within

new_last : (carries : List ℕ) (out next : ℕ) → length carries ≡ next + 1 → slice_index (carries ++ out ∷ []) (next + 1) ≡ out
new_last carries out next size = subst (λ index. slice_index (carries ++ out ∷ []) index ≡ out) size (get_or-append_seam carries out [] 0)

-- The rule holds at one more place.
pub carried_more : (rule : ℕ → ℕ → ℕ → ℕ → ℕ → Type 0) (x y : List ℕ) (carry_in lo next : ℕ) (z : List ℕ) (carry digit out : ℕ)
    → next < length z → lo ≤ next → CarriedTo rule x y carry_in lo next z carry
    → rule (slice_index x next) (slice_index y next) carry digit out → CarriedTo rule x y carry_in lo (next + 1) (set z next digit) out
carried_more rule x y carry_in lo next z carry digit out inside from so_far step = record {
  carries = so_far.carries ++ out ∷ [];
  size = length-append so_far.carries (out ∷ []) ∙ ap (λ size. size + 1) so_far.size;
  first = kept so_far.carries out lo (omega (arith, so_far.size)) ∙ so_far.first;
  last = (new_last so_far.carries out next so_far.size);
  places = λ place low below. elim (cases_lt place next) [
    | inl less ↦
        let other : place ≢ next = omega arith in
        moved rule _ _ _ _ _ _ _ _ (kept so_far.carries out place (omega (arith, so_far.size)))
        (get_or-set_other z next place digit 0 other)
        (kept so_far.carries out (place + 1) (omega (arith, so_far.size))) (so_far.places place low less)
    | inr more ↦
        let same : next ≡ place = omega arith in
        subst (λ at. rule (slice_index x at) (slice_index y at) (slice_index (so_far.carries ++ out ∷ []) at)
        (slice_index (set z next digit) at) (slice_index (so_far.carries ++ out ∷ []) (at + 1)))
        same
        (moved rule _ _ _ _ _ _ _ _ (kept so_far.carries out next (omega (arith, so_far.size)) ∙ so_far.last)
        (get_or-set_same z next digit 0 inside) (new_last so_far.carries out next so_far.size) step)
  ];
}

-- The rule holds at all places up to the last.
pub carried_all : (rule : ℕ → ℕ → ℕ → ℕ → ℕ → Type 0) (x y : List ℕ) (carry_in lo hi : ℕ) (z : List ℕ) (out : ℕ) → carry_in ≤ 1
    → CarriedTo rule x y carry_in lo (hi + 1) z out → HasCarries rule x y carry_in lo hi z out
carried_all rule x y carry_in lo hi z out bit done = search rules

pub carry_le : (carry : Bool) → carry_digit carry ≤ 1
carry_le carry = grind arith

pub same_carry_bit : (a b : Bool) → carry_digit a ≡ carry_digit b → a ≡ b
same_carry_bit a b h = grind arith

-- A rule that determines one place has one register and one carry as its result.
pub result_determined : (rule : ℕ → ℕ → ℕ → ℕ → ℕ → Type 0) → Determines rule → IsDetermined (HasCarries rule)
result_determined rule determines into x y z w carry_in carry other lo hi ordered a b = (
  ext_get_or 0 z w (a.register.size ∙ sym b.register.size) (λ place _. elim (cases_lt place lo) [
    | inl below ↦ a.outside.below place below ∙ sym (b.outside.below place below)
    | inr from ↦ elim (cases_lt hi place) [
      | inl above ↦ a.outside.above place above ∙ sym (b.outside.above place above)
      | inr to ↦
          same_digit rule determines x y z w (carry_digit carry_in) lo hi
          (carry_digit carry) (carry_digit other) a.digits b.digits place from to
    ]
  ]),
  same_carry_bit carry other
      (same_out rule determines x y z w (carry_digit carry_in) lo hi (carry_digit carry) (carry_digit other) a.digits b.digits ordered),
)
