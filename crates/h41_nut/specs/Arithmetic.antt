-- The words that work on a field of A, B and C, from its first place to its last. They work within
-- the field; other places do not change. The carry afterwards is the carry or borrow out of the
-- field's last place, the result of a test, or clear.
use Rattle.std.specs.Prelude.{◌≡◌, ℕ, Bool, true, false, List}
use Rattle.h41_fields.specs.declared.field.Field.{Field}
use Rattle.h41_fields.specs.Field.{first_place, last_place}
use Rattle.h41_arith.specs.DigitRule.{SumInto, DifferenceInto, copy_of, shifted_left, shifted_right}
use Rattle.h41_arith.specs.DigitRule.{is_less, is_different, is_nonzero, zeros}
use Rattle.h41_words.specs.declared.operation.Operation.{Operation}
use Rattle.h41_words.specs.declared.operation.Operation.TheVariants.{ClearA, ClearB, ClearC}
use Rattle.h41_words.specs.declared.operation.Operation.TheVariants.{ExchangeAB, AToB, ExchangeAC}
use Rattle.h41_words.specs.declared.operation.Operation.TheVariants.{BToC, ExchangeBC, CToA}
use Rattle.h41_words.specs.declared.operation.Operation.TheVariants.{AddBToA, AddCToA, IncrementA}
use Rattle.h41_words.specs.declared.operation.Operation.TheVariants.{SubtractBFromA, DecrementA}
use Rattle.h41_words.specs.declared.operation.Operation.TheVariants.{SubtractCFromA, DoubleC}
use Rattle.h41_words.specs.declared.operation.Operation.TheVariants.{AddAToC, IncrementC}
use Rattle.h41_words.specs.declared.operation.Operation.TheVariants.{SubtractCFromAToC, DecrementC}
use Rattle.h41_words.specs.declared.operation.Operation.TheVariants.{NegateC, ComplementC}
use Rattle.h41_words.specs.declared.operation.Operation.TheVariants.{TestBNonzero, TestCNonzero}
use Rattle.h41_words.specs.declared.operation.Operation.TheVariants.{TestALessThanC, TestALessThanB}
use Rattle.h41_words.specs.declared.operation.Operation.TheVariants.{TestANonzero}
use Rattle.h41_words.specs.declared.operation.Operation.TheVariants.{TestADiffersFromC, ShiftRightA}
use Rattle.h41_words.specs.declared.operation.Operation.TheVariants.{ShiftRightB, ShiftRightC}
use Rattle.h41_words.specs.declared.operation.Operation.TheVariants.{ShiftLeftA}
use Rattle.h41_nut.specs.declared.base.Base.{Base}
use Rattle.h41_nut.specs.declared.base.Base.TheVariants.{Hexadecimal, Decimal}
use Rattle.h41_nut.specs.Processor.{Processor}

-- The base of arithmetic.
abbrev pub base_number : Base → ℕ
base_number Hexadecimal = 16
base_number Decimal = 10

-- A rule determines A and the carry.
abbrev pub IntoA : (List ℕ → Bool → Type 0) → Processor → Processor → Type 0
IntoA Rule s t = Rule t.a t.carry × (t ≡ record s { a = t.a; carry = t.carry })

-- A rule determines C and the carry.
abbrev pub IntoC : (List ℕ → Bool → Type 0) → Processor → Processor → Type 0
IntoC Rule s t = Rule t.c t.carry × (t ≡ record s { c = t.c; carry = t.carry })

-- The effect of an operation on a processor whose carry is clear.
abbrev pub Operates : Operation → ℕ → ℕ → Processor → Processor → Type 0
-- A=0, B=0, C=0.
Operates ClearA lo hi s t = t ≡ record s { a = copy_of s.a zeros lo hi }
Operates ClearB lo hi s t = t ≡ record s { b = copy_of s.b zeros lo hi }
Operates ClearC lo hi s t = t ≡ record s { c = copy_of s.c zeros lo hi }
-- A<>B, B=A, A<>C, C=B, B<>C, A=C.
Operates ExchangeAB lo hi s t = t ≡ record s
    { a = copy_of s.a s.b lo hi; b = copy_of s.b s.a lo hi }
Operates AToB lo hi s t = t ≡ record s { b = copy_of s.b s.a lo hi }
Operates ExchangeAC lo hi s t = t ≡ record s
    { a = copy_of s.a s.c lo hi; c = copy_of s.c s.a lo hi }
Operates BToC lo hi s t = t ≡ record s { c = copy_of s.c s.b lo hi }
Operates ExchangeBC lo hi s t = t ≡ record s
    { b = copy_of s.b s.c lo hi; c = copy_of s.c s.b lo hi }
Operates CToA lo hi s t = t ≡ record s { a = copy_of s.a s.c lo hi }
-- A=A+B, A=A+C, A=A+1, A=A-B, A=A-1, A=A-C.
Operates AddBToA lo hi s t = IntoA (SumInto (base_number s.base) s.a s.a s.b false lo hi) s t
Operates AddCToA lo hi s t = IntoA (SumInto (base_number s.base) s.a s.a s.c false lo hi) s t
Operates IncrementA lo hi s t = IntoA (SumInto (base_number s.base) s.a s.a zeros true lo hi) s t
Operates SubtractBFromA lo hi s t =
    IntoA (DifferenceInto (base_number s.base) s.a s.a s.b false lo hi) s t
Operates DecrementA lo hi s t =
    IntoA (DifferenceInto (base_number s.base) s.a s.a zeros true lo hi) s t
Operates SubtractCFromA lo hi s t =
    IntoA (DifferenceInto (base_number s.base) s.a s.a s.c false lo hi) s t
-- C=C+C, C=A+C, C=C+1, C=A-C, C=C-1, C=0-C, C=-C-1.
Operates DoubleC lo hi s t = IntoC (SumInto (base_number s.base) s.c s.c s.c false lo hi) s t
Operates AddAToC lo hi s t = IntoC (SumInto (base_number s.base) s.c s.a s.c false lo hi) s t
Operates IncrementC lo hi s t = IntoC (SumInto (base_number s.base) s.c s.c zeros true lo hi) s t
Operates SubtractCFromAToC lo hi s t =
    IntoC (DifferenceInto (base_number s.base) s.c s.a s.c false lo hi) s t
Operates DecrementC lo hi s t =
    IntoC (DifferenceInto (base_number s.base) s.c s.c zeros true lo hi) s t
Operates NegateC lo hi s t =
    IntoC (DifferenceInto (base_number s.base) s.c zeros s.c false lo hi) s t
Operates ComplementC lo hi s t =
    IntoC (DifferenceInto (base_number s.base) s.c zeros s.c true lo hi) s t
-- ?B#0, ?C#0, ?A<C, ?A<B, ?A#0, ?A#C.
Operates TestBNonzero lo hi s t = t ≡ record s { carry = is_nonzero s.b lo hi }
Operates TestCNonzero lo hi s t = t ≡ record s { carry = is_nonzero s.c lo hi }
Operates TestALessThanC lo hi s t = t ≡ record s { carry = is_less s.a s.c lo hi }
Operates TestALessThanB lo hi s t = t ≡ record s { carry = is_less s.a s.b lo hi }
Operates TestANonzero lo hi s t = t ≡ record s { carry = is_nonzero s.a lo hi }
Operates TestADiffersFromC lo hi s t = t ≡ record s { carry = is_different s.a s.c lo hi }
-- RSHFA, RSHFB, RSHFC, LSHFA.
Operates ShiftRightA lo hi s t = t ≡ record s { a = shifted_right s.a s.a lo hi }
Operates ShiftRightB lo hi s t = t ≡ record s { b = shifted_right s.b s.b lo hi }
Operates ShiftRightC lo hi s t = t ≡ record s { c = shifted_right s.c s.c lo hi }
Operates ShiftLeftA lo hi s t = t ≡ record s { a = shifted_left s.a s.a lo hi }

-- The operation on the field that a word names.
abbrev pub OperatesOn : Operation → Field → Processor → Processor → Type 0
OperatesOn operation field s t =
    Operates operation (first_place field s.p s.q s.active) (last_place field s.p s.q s.active) s t
