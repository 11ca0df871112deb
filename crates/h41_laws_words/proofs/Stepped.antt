-- The change that a word makes, if its sums and differences exist.
use Rattle.std.proofs.Common.{◌≡◌, ℕ, ◌<◌, ◌≤◌, Bool, true, false, List, Option, Some, None, Result, Ok, Err, refl, ap, ap₂}
use Rattle.h41_digits.specs.Register.{IsRegister}
use Rattle.h41_fields.specs.Field.{first_place, last_place}
use Rattle.h41_fields.specs.FieldLaws.{PlacesAreOrdered}
use Rattle.h41_arith.specs.DigitRule.{zeros, Sum, Difference, HasResult}
use Rattle.h41_words.specs.declared.operation.Operation.{Operation}
use Rattle.h41_words.specs.declared.operation.Operation.TheVariants.{AddBToA, AddCToA, IncrementA, SubtractBFromA, DecrementA}
use Rattle.h41_words.specs.declared.operation.Operation.TheVariants.{SubtractCFromA, DoubleC, AddAToC, IncrementC, SubtractCFromAToC}
use Rattle.h41_words.specs.declared.operation.Operation.TheVariants.{DecrementC, NegateC, ComplementC}
use Rattle.h41_words.specs.declared.rows.Row.{Row}
use Rattle.h41_words.specs.declared.rows.Row.TheVariants.{Arithmetic}
use Rattle.h41_words.specs.WordTable.{row_of}
use Rattle.h41_nut.specs.Arithmetic.{IntoA, IntoC, Operates, base_number}
use Rattle.h41_nut.specs.Arrivals.{gone_on}
use Rattle.h41_nut.specs.Processor.{Processor}
use Rattle.h41_nut.specs.ProcessorLaws.{MicroIsDetermined}
use Rattle.h41_nut.specs.WordStep.{Micro, Nut, RefusesOr, WordEffect, refused, word_of}
use Rattle.h41_nut.specs.declared.base.Base.{Base}
use Rattle.h41_nut.specs.declared.base.Base.TheVariants.{Hexadecimal, Decimal}
use Rattle.h41_nut.specs.declared.refusal.WordRefusal.{WordRefusal}
use Rattle.h41_laws_words.specs.DigitAnswers.{DifferenceHasOneResult, HasOneResult, SumHasOneResult}
use Rattle.h41_laws_words.specs.HasOne.{HasOne}
use Rattle.h41_laws_words.proofs.Answering.{Has, has_one}
use Rattle.h41_laws_words.specs.WordAnswers.{AcceptedWordHasOneChange, HasRegisters, WordHasOneAnswer}
use Rattle.h41_laws_words.proofs.Registers.{zeros_register}
use Rattle.h41_laws_words.proofs.Spans.{last_inside}

-- A register and a carry by a rule.
abbrev Gives : (List ℕ → Bool → Type 0) → Type 0
Gives Rule = (z : List ℕ) × (carry : Bool) × Rule z carry

into_a : (Rule : List ℕ → Bool → Type 0) (s : Processor) → Gives Rule → Has (IntoA Rule s)
into_a Rule s given = record { answer = record s { a = given.0; carry = given.1 }; right = (given.2, refl) }

into_c : (Rule : List ℕ → Bool → Type 0) (s : Processor) → Gives Rule → Has (IntoC Rule s)
into_c Rule s given = record { answer = record s { c = given.0; carry = given.1 }; right = (given.2, refl) }

alone : {A : Type 0} (other : A) → Has (λ answer. answer ≡ other)
alone other = record { answer = other; right = refl }

module _ (ordered : PlacesAreOrdered) (sums : SumHasOneResult) (differences : DifferenceHasOneResult) where
  in_base : (base : Base) → HasOneResult (Sum (base_number base))
  in_base Hexadecimal = sums false
  in_base Decimal = sums true

  less_in_base : (base : Base) → HasOneResult (Difference (base_number base))
  less_in_base Hexadecimal = differences false
  less_in_base Decimal = differences true

  module _ (lo hi : ℕ) (le : lo ≤ hi) (inside : hi < 14) where
    -- The one result of a rule.
    given : (rule : List ℕ → List ℕ → ℕ → ℕ → ℕ → List ℕ → ℕ → Type 0) → HasOneResult rule → (into x y : List ℕ) (carry : Bool)
        → IsRegister 14 into → IsRegister 14 x → IsRegister 14 y → Gives (HasResult rule into x y carry lo hi)
    given rule one into x y carry valid x_valid y_valid =
        let found = one into x y carry lo hi valid x_valid y_valid le inside in
        (found.answer.0, found.answer.1, found.right)

    operates : (operation : Operation) (s : Processor) → HasRegisters s → Has (Operates operation lo hi s)
    operates AddBToA s has = into_a _ s (given _ (in_base s.base) s.a s.a s.b false has.a has.a has.b)
    operates AddCToA s has = into_a _ s (given _ (in_base s.base) s.a s.a s.c false has.a has.a has.c)
    operates IncrementA s has = into_a _ s (given _ (in_base s.base) s.a s.a zeros true has.a has.a zeros_register)
    operates SubtractBFromA s has = into_a _ s (given _ (less_in_base s.base) s.a s.a s.b false has.a has.a has.b)
    operates DecrementA s has = into_a _ s (given _ (less_in_base s.base) s.a s.a zeros true has.a has.a zeros_register)
    operates SubtractCFromA s has = into_a _ s (given _ (less_in_base s.base) s.a s.a s.c false has.a has.a has.c)
    operates DoubleC s has = into_c _ s (given _ (in_base s.base) s.c s.c s.c false has.c has.c has.c)
    operates AddAToC s has = into_c _ s (given _ (in_base s.base) s.c s.a s.c false has.c has.a has.c)
    operates IncrementC s has = into_c _ s (given _ (in_base s.base) s.c s.c zeros true has.c has.c zeros_register)
    operates SubtractCFromAToC s has = into_c _ s (given _ (less_in_base s.base) s.c s.a s.c false has.c has.a has.c)
    operates DecrementC s has = into_c _ s (given _ (less_in_base s.base) s.c s.c zeros true has.c has.c zeros_register)
    operates NegateC s has = into_c _ s (given _ (less_in_base s.base) s.c zeros s.c false has.c zeros_register has.c)
    operates ComplementC s has = into_c _ s (given _ (less_in_base s.base) s.c zeros s.c true has.c zeros_register has.c)
    operates operation s has = alone _

  effect : (row : Row) (s : Nut) → HasRegisters s.processor → Has (WordEffect row s)
  effect (Arithmetic operation field) s has =
      let on = gone_on s.processor in
      let le = ordered field on.p on.q on.active in
      let found =
      operates (first_place field on.p on.q on.active) (last_place field on.p on.q on.active) le (last_inside field on.p on.q on.active)
      operation on (record { a = has.a; b = has.b; c = has.c }) in
      record { answer = record s { processor = found.answer }; right = (found.right, refl) }
  effect row s has = alone _

  pub accepted : (s : Nut) → HasRegisters s.processor → refused s ≡ None → Has (Micro s)
  accepted s has none =
      let found = effect (row_of (word_of s)) s has in
      record { answer = found.answer; right = record { accepted = none; effect = found.right } }

  pub one_change : MicroIsDetermined → AcceptedWordHasOneChange
  one_change determined s has none = has_one (accepted s has none) (λ x y one other. determined s x y one other)

-- An answer and a state as a pair.
abbrev Outcome : Type 0
Outcome = Result (Unit {0}) WordRefusal × Nut

abbrev outcome : Result (Unit {0}) WordRefusal → Nut → Outcome
outcome result t = (result, t)

-- A step that is accepted.
only_accepted : (s : Nut) (change : HasOne (Micro s)) (result : Result (Unit {0}) WordRefusal) (t : Nut)
    → RefusesOr None Micro result s t → outcome result t ≡ outcome (Ok tt) change.answer
only_accepted s change (Ok done) t is = ap (λ (t : Nut). outcome (Ok tt) t) (change.only t is.change)
only_accepted s change (Err why) t is = absurd (let never : Some why ≡ None = is.refusal in cc)

-- A step that is refused.
only_refused : (s : Nut) (why : WordRefusal) (result : Result (Unit {0}) WordRefusal) (t : Nut)
    → RefusesOr (Some why) Micro result s t → outcome result t ≡ outcome (Err why) s
only_refused s why (Ok done) t is = absurd (let never : None ≡ Some why = is.refusal in cc)
only_refused s why (Err other) t is =
    let both : Some other ≡ Some why = is.refusal in
    let same : other ≡ why = cc in
    ap₂ (λ (r : WordRefusal) (t : Nut). outcome (Err r) t) same is.stays

answered : (s : Nut) (reason : Option WordRefusal) → (reason ≡ None → HasOne (Micro s))
    → HasOne {A = Outcome} (λ left. RefusesOr reason Micro left.0 s left.1)
answered s None change =
    let found = change refl in
    record {
      answer = (Ok tt, found.answer);
      right = record { refusal = refl; change = found.right; stays = tt };
      only = λ other is. only_accepted s found other.0 other.1 is;
    }
answered s (Some why) change = record {
  answer = (Err why, s);
  right = record { refusal = refl; change = tt; stays = refl };
  only = λ other is. only_refused s why other.0 other.1 is;
}

pub one_answer : AcceptedWordHasOneChange → WordHasOneAnswer
one_answer change s has = answered s (refused s) (change s has)
