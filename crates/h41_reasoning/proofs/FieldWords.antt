-- The words that work on a field of A, B and C. A sum or a difference leaves an unknown register, of which the digit rule
-- is true; every other operation leaves a register that is written out.
use Rattle.std.proofs.Common.{◌≡◌, ℕ, Bool, true, false, List, subst}
use Rattle.h41_arith.specs.DigitRule.{DifferenceInto, SumInto, zeros}
use Rattle.h41_fields.specs.Field.{first_place, last_place}
use Rattle.h41_fields.specs.declared.field.Field.{Field}
use Rattle.h41_laws_words.specs.WholeStates.{IsWhole}
use Rattle.h41_nut.specs.Addresses.{is_closed}
use Rattle.h41_nut.specs.Arithmetic.{IntoA, IntoC, Operates, base_number}
use Rattle.h41_nut.specs.Arrivals.{gone_on, next_address}
use Rattle.h41_nut.specs.Processor.{Processor}
use Rattle.h41_nut.specs.WordStep.{Nut}
use Rattle.h41_words.specs.declared.operation.Operation.{Operation}
use Rattle.h41_words.specs.declared.operation.Operation.TheVariants as operations
use Rattle.h41_words.specs.declared.rows.Row.TheVariants.{Arithmetic}
use Rattle.h41_reasoning.specs.WordRuns.{ArithmeticIsExecuted, IsNext, StepsTo}
use Rattle.h41_reasoning.proofs.Rounds.{into_a, into_c}

-- What a step leaves in C and the carry, by a rule.
abbrev pub LeavesInC : (List ℕ → Bool → Type 0) → Nut → Type 0
LeavesInC Rule s =
    (z : List ℕ) × (carry : Bool) × Rule z carry
    × StepsTo s (record s { processor = record (gone_on s.processor) { c = z; carry = carry } })

-- What a step leaves in A and the carry, by a rule.
abbrev pub LeavesInA : (List ℕ → Bool → Type 0) → Nut → Type 0
LeavesInA Rule s =
    (z : List ℕ) × (carry : Bool) × Rule z carry
    × StepsTo s (record s { processor = record (gone_on s.processor) { a = z; carry = carry } })

module _ (arithmetic : ArithmeticIsExecuted) (field : Field) (s : Nut) (whole : IsWhole s)
    (is_open : is_closed (next_address s.processor) ≡ false) where
  abbrev lo : ℕ
  lo = first_place field s.processor.p s.processor.q s.processor.active

  abbrev hi : ℕ
  hi = last_place field s.processor.p s.processor.q s.processor.active

  abbrev base : ℕ
  base = base_number s.processor.base

  -- An operation whose result is written out: a copy, an exchange, a shift or a test.
  pub operated : (operation : Operation) (p : Processor)
      → ((t : Processor) → Operates operation lo hi (gone_on s.processor) t → t ≡ p)
      → IsNext (Arithmetic operation field) s → StepsTo s (record s { processor = p })
  operated operation p written next =
      let found = arithmetic operation field s whole next is_open in
      subst (λ t. StepsTo s (record s { processor = t })) (written found.0 found.1) found.2

  -- A sum or a difference.
  in_c : (operation : Operation) (Rule : List ℕ → Bool → Type 0)
      → ((t : Processor) → Operates operation lo hi (gone_on s.processor) t → IntoC Rule (gone_on s.processor) t)
      → IsNext (Arithmetic operation field) s → LeavesInC Rule s
  in_c operation Rule is next =
      let found = arithmetic operation field s whole next is_open in
      into_c Rule s (gone_on s.processor) found.0 (is found.0 found.1) found.2

  in_a : (operation : Operation) (Rule : List ℕ → Bool → Type 0)
      → ((t : Processor) → Operates operation lo hi (gone_on s.processor) t → IntoA Rule (gone_on s.processor) t)
      → IsNext (Arithmetic operation field) s → LeavesInA Rule s
  in_a operation Rule is next =
      let found = arithmetic operation field s whole next is_open in
      into_a Rule s (gone_on s.processor) found.0 (is found.0 found.1) found.2

  -- C=C+1, C=A+C, C=C+C, C=C-1, C=A-C, C=0-C and C=-C-1.
  pub c_incremented : IsNext (Arithmetic operations.IncrementC field) s
      → LeavesInC (SumInto base s.processor.c s.processor.c zeros true lo hi) s
  c_incremented = in_c operations.IncrementC _ (λ t is. is)

  pub a_added_to_c : IsNext (Arithmetic operations.AddAToC field) s
      → LeavesInC (SumInto base s.processor.c s.processor.a s.processor.c false lo hi) s
  a_added_to_c = in_c operations.AddAToC _ (λ t is. is)

  pub c_doubled : IsNext (Arithmetic operations.DoubleC field) s
      → LeavesInC (SumInto base s.processor.c s.processor.c s.processor.c false lo hi) s
  c_doubled = in_c operations.DoubleC _ (λ t is. is)

  pub c_decremented : IsNext (Arithmetic operations.DecrementC field) s
      → LeavesInC (DifferenceInto base s.processor.c s.processor.c zeros true lo hi) s
  c_decremented = in_c operations.DecrementC _ (λ t is. is)

  pub c_subtracted_from_a : IsNext (Arithmetic operations.SubtractCFromAToC field) s
      → LeavesInC (DifferenceInto base s.processor.c s.processor.a s.processor.c false lo hi) s
  c_subtracted_from_a = in_c operations.SubtractCFromAToC _ (λ t is. is)

  pub c_negated : IsNext (Arithmetic operations.NegateC field) s
      → LeavesInC (DifferenceInto base s.processor.c zeros s.processor.c false lo hi) s
  c_negated = in_c operations.NegateC _ (λ t is. is)

  pub c_complemented : IsNext (Arithmetic operations.ComplementC field) s
      → LeavesInC (DifferenceInto base s.processor.c zeros s.processor.c true lo hi) s
  c_complemented = in_c operations.ComplementC _ (λ t is. is)

  -- A=A+1, A=A+B, A=A+C, A=A-1, A=A-B and A=A-C.
  pub a_incremented : IsNext (Arithmetic operations.IncrementA field) s
      → LeavesInA (SumInto base s.processor.a s.processor.a zeros true lo hi) s
  a_incremented = in_a operations.IncrementA _ (λ t is. is)

  pub b_added_to_a : IsNext (Arithmetic operations.AddBToA field) s
      → LeavesInA (SumInto base s.processor.a s.processor.a s.processor.b false lo hi) s
  b_added_to_a = in_a operations.AddBToA _ (λ t is. is)

  pub c_added_to_a : IsNext (Arithmetic operations.AddCToA field) s
      → LeavesInA (SumInto base s.processor.a s.processor.a s.processor.c false lo hi) s
  c_added_to_a = in_a operations.AddCToA _ (λ t is. is)

  pub a_decremented : IsNext (Arithmetic operations.DecrementA field) s
      → LeavesInA (DifferenceInto base s.processor.a s.processor.a zeros true lo hi) s
  a_decremented = in_a operations.DecrementA _ (λ t is. is)

  pub b_subtracted_from_a : IsNext (Arithmetic operations.SubtractBFromA field) s
      → LeavesInA (DifferenceInto base s.processor.a s.processor.a s.processor.b false lo hi) s
  b_subtracted_from_a = in_a operations.SubtractBFromA _ (λ t is. is)

  pub c_taken_from_a : IsNext (Arithmetic operations.SubtractCFromA field) s
      → LeavesInA (DifferenceInto base s.processor.a s.processor.a s.processor.c false lo hi) s
  c_taken_from_a = in_a operations.SubtractCFromA _ (λ t is. is)
