-- The carries of a sum or a difference that was made in one go, found again digit by digit from below.
use Rattle.std.proofs.Common.{◌≡◌, ℕ, suc, zero, ◌+◌, ◌-◌, ◌<◌, ◌≤◌, List, ◌∷◌, map, slice_index, refl, sym, ap, subst, arith, ◌∙◌}
use Rattle.std.specs.List.{range_with_len}
use Rattle.std.proofs.lemmas.List.FromFn.{get_or-map-range_with_len}
use Rattle.h41_arith.specs.DigitRule.{HasCarries}
use Rattle.h41_arith.proofs.Parts.{part, part_at}

-- A rule holds at each of a number of digits from the first on, with a carry into each and one out of the last.
pub record Steps (rule : ℕ → ℕ → ℕ → ℕ → ℕ → Type 0) (x y : List ℕ) (carry : ℕ) (z : List ℕ) (count out : ℕ) : Type 0 where
  pub carries : ℕ → ℕ
  pub first : carries 0 ≡ carry
  pub last : carries count ≡ out
  pub places : (index : ℕ) → index < count
      → rule (slice_index x index) (slice_index y index) (carries index) (slice_index z index) (carries (suc index))

pub steps_none : (rule : ℕ → ℕ → ℕ → ℕ → ℕ → Type 0) (x y z : List ℕ) (carry out : ℕ) → carry ≡ out → Steps rule x y carry z 0 out
steps_none rule x y z carry out same = record {
  carries = λ index. carry;
  first = refl;
  last = same;
  places = λ index few. absurd (omega (arith, few));
}

-- A list of carries with one more before it.
abbrev before : ℕ → (ℕ → ℕ) → ℕ → ℕ
before carry carries zero = carry
before carry carries (suc index) = carries index

pub steps_more : (rule : ℕ → ℕ → ℕ → ℕ → ℕ → Type 0) (a b c : ℕ) (x y z : List ℕ) (carry next count out : ℕ) → rule a b carry c next
    → Steps rule x y next z count out → Steps rule (a ∷ x) (b ∷ y) carry (c ∷ z) (suc count) out
steps_more rule a b c x y z carry next count out here rest = record {
  carries = before carry rest.carries;
  first = refl;
  last = rest.last;
  places = at;
}
  where
    at : (index : ℕ) → index < suc count
        → rule (slice_index (a ∷ x) index) (slice_index (b ∷ y) index) (before carry rest.carries index)
        (slice_index (c ∷ z) index) (before carry rest.carries (suc index))
    at zero few = subst (λ n. rule a b carry c n) (sym rest.first) here
    at (suc index) few = rest.places index (omega (arith, few))

-- The carry into a place of a span.
abbrev carry_at : (ℕ → ℕ) → ℕ → ℕ → ℕ
carry_at carries lo place = carries (place - lo)

carries_list : (ℕ → ℕ) → ℕ → ℕ → List ℕ
carries_list carries lo hi = map (carry_at carries lo) (range_with_len 0 (hi + 2))

carry_read : (carries : ℕ → ℕ) (lo hi place : ℕ) → place < hi + 2 → slice_index (carries_list carries lo hi) place ≡ carries (place - lo)
unfolding carries_list
carry_read carries lo hi place few = get_or-map-range_with_len (carry_at carries lo) 0 (hi + 2) place place 0 few (omega arith)

moved : (rule : ℕ → ℕ → ℕ → ℕ → ℕ → Type 0) (a b c d e f g h i j : ℕ) → a ≡ f → b ≡ g → c ≡ h → d ≡ i → e ≡ j → rule f g h i j
    → rule a b c d e
moved rule a b c d e f g h i j p q r s t holds = rw (p, q, r, s, t) holds

-- The rule holds at the places of a span, with these carries.
pub has_carries : (rule : ℕ → ℕ → ℕ → ℕ → ℕ → Type 0) (x y z : List ℕ) (lo hi carry out : ℕ) → carry ≤ 1 → lo ≤ hi
    → Steps rule (part x lo hi) (part y lo hi) carry (part z lo hi) (hi + 1 - lo) out → HasCarries rule x y carry lo hi z out
has_carries rule x y z lo hi carry out bit ordered steps = record {
  bit = bit;
  carries = carries_list steps.carries lo hi;
  first = carry_read steps.carries lo hi lo (omega arith) ∙ ap steps.carries (omega arith) ∙ steps.first;
  last = carry_read steps.carries lo hi (hi + 1) (omega arith) ∙ steps.last;
  places = λ place from to.
      moved rule _ _ _ _ _ _ _ _ _ _ (part_at x lo hi place from to) (part_at y lo hi place from to)
      (carry_read steps.carries lo hi place (omega arith)) (part_at z lo hi place from to)
      (carry_read steps.carries lo hi (place + 1) (omega arith) ∙ ap steps.carries (omega arith)) (steps.places (place - lo) (omega arith));
}
