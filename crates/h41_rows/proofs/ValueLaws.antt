-- Values are determined.
use Rattle.std.proofs.Common.{◌≡◌, ℕ, ◌*◌, Bool, true, false, List, [], ◌∷◌, Result, Ok, Err, MatchBool, refl, sym, ap, subst, ◌∙◌}
use Rattle.std.specs.Prelude.{ℤ, pos, neg_ℤ, ◌+ℤ◌, ◌-ℤ◌, ◌*ℤ◌, unsigned_abs, IsOkAnd}
use Rattle.std.specs.Option.{option_map_or}
use Rattle.h41_codes.specs.declared.characters.Character.{Character}
use Rattle.h41_decimal.specs.Holding.{holding_of, worth}
use Rattle.h41_decimal.specs.Laws.{FractionIsDetermined, IntegerPartIsDetermined, ModuloIsDetermined, NearestIsDetermined}
use Rattle.h41_decimal.specs.Laws.{NearestRootIsDetermined, QuotientIsDetermined, RegisterIsDetermined, StepsAreDetermined}
use Rattle.h41_decimal.specs.Laws.{UnitsAreInjective}
use Rattle.h41_decimal.specs.NearestDecimal.{Nearest}
use Rattle.h41_decimal.specs.NumberEntry.{size_of_greatest}
use Rattle.h41_decimal.specs.Operations.{NearestModulo, RoundsTo, step_of}
use Rattle.h41_decimal.specs.Signs.{with_sign}
use Rattle.h41_decimal.specs.Units.{one, units}
use Rattle.h41_decimal.specs.declared.fault.DecimalFault.{DecimalFault}
use Rattle.h41_decimal.specs.declared.fault.DecimalFault.TheVariants.{Data, Range}
use Rattle.h41_decimal.specs.declared.places.Places.{Places}
use Rattle.h41_decimal.specs.declared.sign.Sign.{Sign}
use Rattle.h41_decimal.specs.declared.ten.Ten.{Ten}
use Rattle.h41_ram.specs.NamedFlags.{range_ignore}
use Rattle.h41_ram.specs.RegisterMap.{RegisterMap, d_address, flag_of, register_at, zeros}
use Rattle.h41_show.specs.DisplayFormat.{format_of}
use Rattle.h41_numbers.specs.NumberLaws.{NumbersAreDetermined}
use Rattle.h41_numbers.specs.NumberLines.{IsNumberOf}
use Rattle.h41_rows.specs.Computing.{WorksOn}
use Rattle.h41_rows.specs.Counters.{Up, Down, number_after}
use Rattle.h41_rows.specs.Places.{Named, X, Y, amount_in, are_numbers, register_in}
use Rattle.h41_rows.specs.RowEffects.{holds_in}
use Rattle.h41_rows.specs.RowLaws.{AlwaysIsDetermined, OneIsDetermined, TestIsDetermined, TwoIsDetermined, ValuesAreDetermined}
use Rattle.h41_rows.specs.Rows.{places_in_condition, places_in_value}
use Rattle.h41_rows.specs.Values.{Computes, Given, IsOfOne, IsOfTwo, IsRegisterOf, IsValue, Kept, OfOne, OfTwo, Value, Written}
use Rattle.h41_rows.specs.Values.{places_of, sign_of_value, unit_of}
use Rattle.h41_rows.specs.declared.fault.LineFault.{LineFault}
use Rattle.h41_rows.specs.declared.fault.LineFault.TheVariants.{AlphaData}
use Rattle.h41_rows.specs.declared.values.ValueOfOne.{ValueOfOne}
use Rattle.h41_rows.specs.declared.values.ValueOfOne.TheVariants as ones
use Rattle.h41_rows.specs.declared.values.ValueOfTwo.{ValueOfTwo}
use Rattle.h41_rows.specs.declared.values.ValueOfTwo.TheVariants as twos

-- The number of a number line.
module _ (same_number : NumbersAreDetermined) where
  same_written : (text : List Character) (x y : Result Ten DecimalFault) → IsOkAnd x (IsNumberOf text) → IsOkAnd y (IsNumberOf text) → x ≡ y
  same_written text (Ok x) (Ok y) p q = ap Ok (same_number text x y p q)
  same_written text (Ok x) (Err fault) p q = absurd q
  same_written text (Err fault) y p q = absurd p

-- The result for a value.
module _
    (same_nearest : NearestIsDetermined) (same_root : NearestRootIsDetermined)
    (same_part : IntegerPartIsDetermined) (same_fraction : FractionIsDetermined)
    (same_number : NumbersAreDetermined) (same_units : UnitsAreInjective)
    (same_quotient : QuotientIsDetermined) (same_modulo : ModuloIsDetermined)
    (same_steps : StepsAreDetermined) where
  same_of_one : (value : ValueOfOne) (places : Places) (number : ℤ) (x y : Result Ten DecimalFault)
      → IsOfOne value places number x → IsOfOne value places number y → x ≡ y
  same_of_one ones.Root places number x y p q = same_root number x y p q
  same_of_one ones.Inverse places number x y p q = same_quotient (pos one) number x y p q
  same_of_one ones.Negative places number x y p q = same_nearest (neg_ℤ number) 1 x y p q
  same_of_one ones.AbsoluteValue places number x y p q = same_nearest (pos (unsigned_abs number)) 1 x y p q
  same_of_one ones.IntegerPart places number x y p q =
      let part : p.0 ≡ q.0 = same_part number p.0 q.0 p.1 q.1 in
      same_nearest q.0 1 x y (subst (λ of. Nearest of 1 x) part p.2) q.2
  same_of_one ones.Fraction places number x y p q =
      let rest : p.0 ≡ q.0 = same_fraction number p.0 q.0 p.1 q.1 in
      same_nearest q.0 1 x y (subst (λ of. Nearest of 1 x) rest p.2) q.2
  same_of_one ones.Displayed places number x y p q =
      let decimal : p.0 ≡ q.0 = same_units p.0 q.0 (p.1 ∙ sym q.1) in
      same_steps (step_of places q.0) (units q.0) x y (subst (λ of. RoundsTo (step_of places of) (units of) x) decimal p.2) q.2
  same_of_one ones.Unit places number x y p q = same_nearest (unit_of number) 1 x y p q
  same_of_one ones.CountedUp places number x y p q = same_nearest (number_after Up number) 1 x y p q
  same_of_one ones.CountedDown places number x y p q = same_nearest (number_after Down number) 1 x y p q

  same_of_two : (value : ValueOfTwo) (first second : ℤ) (x y : Result Ten DecimalFault)
      → IsOfTwo value first second x → IsOfTwo value first second y → x ≡ y
  same_of_two twos.Sum first second x y p q = same_nearest (first +ℤ second) 1 x y p q
  same_of_two twos.Difference first second x y p q = same_nearest (first -ℤ second) 1 x y p q
  same_of_two twos.Product first second x y p q = same_nearest (first *ℤ second) one x y p q
  same_of_two twos.Quotient first second x y p q = same_quotient first second x y p q
  same_of_two twos.Remainder first second x y p q =
      let above : p.0 ≡ q.0 = same_units p.0 q.0 (p.2 ∙ sym q.2) in
      let below : p.1 ≡ q.1 = same_units p.1 q.1 (p.3 ∙ sym q.3) in
      let other : NearestModulo q.0 q.1 x = subst (λ of. NearestModulo q.0 of x) below (subst (λ of. NearestModulo of p.1 x) above p.4) in
      same_modulo q.0 q.1 x y other q.4
  same_of_two twos.Percentage first second x y p q = same_nearest (first *ℤ second) (100 * one) x y p q

  same_answer : (value : Value) (memory : RegisterMap) (named : ℕ) (x y : Result Ten DecimalFault)
      → IsValue value memory named x → IsValue value memory named y → x ≡ y
  same_answer (Given number) memory named x y p q = same_nearest number 1 x y p q
  same_answer (Written characters) memory named x y p q = same_written same_number characters x y p q
  same_answer (OfOne ones.Unit a) memory named x y p q =
      same_nearest (option_map_or unit_of (worth (holding_of (register_in memory named a))) (pos 0)) 1 x y p q
  same_answer (OfOne value a) memory named x y p q =
      same_of_one value (places_of (format_of memory)) (amount_in memory named a) x y p q
  same_answer (OfTwo value a b) memory named x y p q = same_of_two value (amount_in memory named a) (amount_in memory named b) x y p q

-- The register of a result.
module _ (same_register : RegisterIsDetermined) where
  same_held : (number : ℤ) (a b : Result (List ℕ) LineFault) → IsOkAnd a (IsRegisterOf number) → IsOkAnd b (IsRegisterOf number) → a ≡ b
  same_held number (Ok a) (Ok b) p q = ap Ok (same_register number a b p.valid q.valid p.holds q.holds)
  same_held number (Ok a) (Err fault) p q = absurd q
  same_held number (Err fault) b p q = absurd p

  same_kept : (sign : Sign) (ignored : Bool) (answer : Result Ten DecimalFault) (a b : Result (List ℕ) LineFault)
      → Kept sign ignored answer a → Kept sign ignored answer b → a ≡ b
  same_kept sign ignored (Ok number) a b p q = same_held (units number) a b p q
  same_kept sign ignored (Err Data) a b p q = p ∙ sym q
  same_kept sign true (Err Range) a b p q = same_held (with_sign sign size_of_greatest) a b p q
  same_kept sign false (Err Range) a b p q = p ∙ sym q

-- An empty memory.
abbrev empty_memory : RegisterMap
empty_memory = record { status = []; main = [] }

-- Memory with two registers in Y and X, and the flags of another memory.
abbrev with_two : RegisterMap → List ℕ → List ℕ → RegisterMap
with_two memory y x =
    record {
      status =
          zeros ∷ zeros ∷ y ∷ x ∷ zeros ∷ zeros ∷ zeros ∷ zeros ∷ zeros ∷ zeros ∷ zeros ∷ zeros ∷ zeros ∷ zeros
          ∷ register_at memory d_address ∷ zeros ∷ [];
      main = [];
    }

same_held_register : (register other : List ℕ) → ◌≡◌ {A = Result (List ℕ) LineFault} (Ok register) (Ok other) → register ≡ other
same_held_register register other is = cc

-- A test needs numbers, or its result is an error.
by_numbers : {A : Type 0} (numbers : Bool) (a b other fault : A) → MatchBool numbers (a ≡ other) (a ≡ fault)
    → MatchBool numbers (b ≡ other) (b ≡ fault) → a ≡ b
by_numbers true a b other fault p q = p ∙ sym q
by_numbers false a b other fault p q = p ∙ sym q

pub test_determined : TestIsDetermined
test_determined memory condition a b p q =
    by_numbers (are_numbers memory 0 (places_in_condition condition)) a b (Ok (holds_in memory 0 condition)) (Err AlphaData) (p 0) (q 0)

-- The register of a value, or its error.
module _
    (same_nearest : NearestIsDetermined) (same_root : NearestRootIsDetermined)
    (same_part : IntegerPartIsDetermined) (same_fraction : FractionIsDetermined)
    (same_number : NumbersAreDetermined) (same_units : UnitsAreInjective)
    (same_quotient : QuotientIsDetermined) (same_modulo : ModuloIsDetermined)
    (same_steps : StepsAreDetermined) (same_register : RegisterIsDetermined) where
  pub values_determined : ValuesAreDetermined
  values_determined value memory named a b p q =
      let same : p.answer ≡ q.answer =
      same_answer same_nearest same_root same_part same_fraction same_number same_units same_quotient same_modulo same_steps
      value memory named p.answer q.answer p.nearest q.nearest
      in
      let kept : Kept (sign_of_value value memory named) (flag_of memory range_ignore) q.answer a =
      subst (λ answer. Kept (sign_of_value value memory named) (flag_of memory range_ignore) answer a) same p.kept
      in
      same_kept same_register (sign_of_value value memory named) (flag_of memory range_ignore) q.answer a b kept q.kept

  -- A value of numbers.
  works_determined : (memory : RegisterMap) (named : ℕ) (value : Value) (a b : Result (List ℕ) LineFault)
      → WorksOn memory named value a → WorksOn memory named value b → a ≡ b
  works_determined memory named value a b p q = by_numbers (are_numbers memory named (places_in_value value)) p q
    where
      by_numbers : (numbers : Bool) → MatchBool numbers (Computes value memory named a) (a ≡ Err AlphaData)
          → MatchBool numbers (Computes value memory named b) (b ≡ Err AlphaData) → a ≡ b
      by_numbers true p q = values_determined value memory named a b p q
      by_numbers false p q = p ∙ sym q

  pub one_determined : OneIsDetermined
  one_determined value memory address a b p q =
      works_determined memory address (OfOne value Named) a b (p address Named refl) (q address Named refl)

  pub two_determined : TwoIsDetermined
  two_determined value memory first second a b p q =
      let other : RegisterMap = with_two memory (register_at memory first) (register_at memory second) in
      works_determined other 0 (OfTwo value Y X) a b (p other 0 Y X refl refl refl) (q other 0 Y X refl refl refl)

  pub always_determined : AlwaysIsDetermined
  always_determined value register other p q =
      same_held_register register other
      (values_determined value empty_memory 0 (Ok register) (Ok other) (p empty_memory 0) (q empty_memory 0))
