-- Why the change that a step makes is determined, given that the digits and the carry of a sum and of a difference are.
use Rattle.std.proofs.Common.{◌≡◌, ℕ, ◌≤◌, Bool, true, false, List, sym, subst, ◌∙◌}
use Rattle.h41_fields.specs.FieldLaws.{PlacesAreOrdered}
use Rattle.h41_arith.specs.DigitRule.{SumInto, DifferenceInto, zeros}
use Rattle.h41_arith.specs.DigitRuleLaws.{SumIsDetermined, DifferenceIsDetermined, ComplementBorrows}
use Rattle.h41_words.specs.declared.operation.Operation.{Operation}
use Rattle.h41_words.specs.declared.operation.Operation.TheVariants.{AddBToA, AddCToA, IncrementA, SubtractBFromA, DecrementA}
use Rattle.h41_words.specs.declared.operation.Operation.TheVariants.{SubtractCFromA, DoubleC, AddAToC, IncrementC, SubtractCFromAToC}
use Rattle.h41_words.specs.declared.operation.Operation.TheVariants.{DecrementC, NegateC, ComplementC}
use Rattle.h41_words.specs.declared.rows.Row.{Row}
use Rattle.h41_words.specs.declared.rows.Row.TheVariants.{Arithmetic}
use Rattle.h41_words.specs.WordTable.{row_of}
use Rattle.h41_nut.specs.Arithmetic.{IntoA, IntoC, Operates}
use Rattle.h41_nut.specs.Processor.{Processor}
use Rattle.h41_nut.specs.ProcessorLaws.{MicroIsDetermined, ComplementSetsCarry}
use Rattle.h41_nut.specs.WordStep.{Nut, WordEffect, word_of}

-- A rule with one register and one carry as its result.
abbrev Single : (List ℕ → Bool → Type 0) → Type 0
Single Rule = (z w : List ℕ) (carry other : Bool) → Rule z carry → Rule w other → (z ≡ w) × (carry ≡ other)

same_a : (Rule : List ℕ → Bool → Type 0) (s t u : Processor) → Single Rule → IntoA Rule s t → IntoA Rule s u → t ≡ u
same_a Rule s t u single p q =
    let same = single t.a u.a t.carry u.carry p.0 q.0 in
    p.1 ∙ (λ i. record s { a = same.0 i; carry = same.1 i }) ∙ sym q.1

same_c : (Rule : List ℕ → Bool → Type 0) (s t u : Processor) → Single Rule → IntoC Rule s t → IntoC Rule s u → t ≡ u
same_c Rule s t u single p q =
    let same = single t.c u.c t.carry u.carry p.0 q.0 in
    p.1 ∙ (λ i. record s { c = same.0 i; carry = same.1 i }) ∙ sym q.1

module _ (ordered : PlacesAreOrdered) (sums : SumIsDetermined) (differences : DifferenceIsDetermined) where
  one_sum : (base : ℕ) (into x y : List ℕ) (carry_in : Bool) (lo hi : ℕ) → lo ≤ hi → Single (SumInto base into x y carry_in lo hi)
  one_sum base into x y carry_in lo hi le z w carry other p q = sums base into x y z w carry_in carry other lo hi le p q

  one_difference : (base : ℕ) (into x y : List ℕ) (borrow_in : Bool) (lo hi : ℕ) → lo ≤ hi
      → Single (DifferenceInto base into x y borrow_in lo hi)
  one_difference base into x y borrow_in lo hi le z w borrow other p q = differences base into x y z w borrow_in borrow other lo hi le p q

  same_operates : (operation : Operation) (lo hi : ℕ) (s t u : Processor) → lo ≤ hi → Operates operation lo hi s t
      → Operates operation lo hi s u → t ≡ u
  same_operates AddBToA lo hi s t u le p q = same_a _ s t u (one_sum _ s.a s.a s.b false lo hi le) p q
  same_operates AddCToA lo hi s t u le p q = same_a _ s t u (one_sum _ s.a s.a s.c false lo hi le) p q
  same_operates IncrementA lo hi s t u le p q = same_a _ s t u (one_sum _ s.a s.a zeros true lo hi le) p q
  same_operates SubtractBFromA lo hi s t u le p q = same_a _ s t u (one_difference _ s.a s.a s.b false lo hi le) p q
  same_operates DecrementA lo hi s t u le p q = same_a _ s t u (one_difference _ s.a s.a zeros true lo hi le) p q
  same_operates SubtractCFromA lo hi s t u le p q = same_a _ s t u (one_difference _ s.a s.a s.c false lo hi le) p q
  same_operates DoubleC lo hi s t u le p q = same_c _ s t u (one_sum _ s.c s.c s.c false lo hi le) p q
  same_operates AddAToC lo hi s t u le p q = same_c _ s t u (one_sum _ s.c s.a s.c false lo hi le) p q
  same_operates IncrementC lo hi s t u le p q = same_c _ s t u (one_sum _ s.c s.c zeros true lo hi le) p q
  same_operates SubtractCFromAToC lo hi s t u le p q = same_c _ s t u (one_difference _ s.c s.a s.c false lo hi le) p q
  same_operates DecrementC lo hi s t u le p q = same_c _ s t u (one_difference _ s.c s.c zeros true lo hi le) p q
  same_operates NegateC lo hi s t u le p q = same_c _ s t u (one_difference _ s.c zeros s.c false lo hi le) p q
  same_operates ComplementC lo hi s t u le p q = same_c _ s t u (one_difference _ s.c zeros s.c true lo hi le) p q
  same_operates operation lo hi s t u le p q = p ∙ sym q

  same_effect : (row : Row) (s t u : Nut) → WordEffect row s t → WordEffect row s u → t ≡ u
  same_effect (Arithmetic operation field) s t u p q =
      let le = ordered field s.processor.p s.processor.q s.processor.active in
      let same = same_operates operation _ _ _ t.processor u.processor le p.0 q.0 in
      p.1 ∙ (λ i. record s { processor = same i }) ∙ sym q.1
  same_effect row s t u p q = p ∙ sym q

  pub same_micro : MicroIsDetermined
  same_micro s t u p q = same_effect (row_of (word_of s)) s t u p.effect q.effect

-- C=-C-1 always borrows.
pub complement_carries : PlacesAreOrdered → ComplementBorrows → ComplementSetsCarry
complement_carries ordered borrows s t field row micro =
    let effect = subst (λ r. WordEffect r s t) row micro.effect in
    borrows _ _ _ _ _ _ t.processor.carry (ordered field s.processor.p s.processor.q s.processor.active) effect.0.0
