-- What is computed from the registers at addresses is computed from the places with these addresses.
use Rattle.std.proofs.Common.{◌≡◌, ℕ, sym, ◌∙◌, ap, refl, subst, Bool, true, false, MatchBool, IsOkAnd, List, Option, Some, None}
use Rattle.std.proofs.Common.{Result, Ok, Err, rules}
use Rattle.std.specs.Prelude.{ℤ, pos, is_some, ◌&&◌, ◌==◌, if◌then◌else◌, slice_index}
use Rattle.std.specs.Option.{option_map_or}
use Rattle.h41_decimal.specs.Holding.{Holding, Text, Other, holding, holding_of, number_in, text_in, worth}
use Rattle.h41_decimal.specs.NearestDecimal.{Nearest}
use Rattle.h41_decimal.specs.Units.{units}
use Rattle.h41_decimal.specs.declared.fault.DecimalFault.{DecimalFault}
use Rattle.h41_decimal.specs.declared.places.Places.{Places}
use Rattle.h41_decimal.specs.declared.ten.Ten.{Ten}
use Rattle.h41_ram.specs.NamedFlags.{range_ignore}
use Rattle.h41_ram.specs.RegisterMap.{RegisterMap, flag_of, register_at}
use Rattle.h41_rows.specs.private.Answers.{KeptOne, KeptTwo, RoundsAt, WithoutNumber, WorksOnRegister, WorksOnRegisters}
use Rattle.h41_rows.specs.Computing.{IsAlways, WorksOnOne}
use Rattle.h41_rows.specs.Places.{RowPlace, amount_in, place_address, register_in}
use Rattle.h41_rows.specs.Values.{Given, OfOne, OfTwo, Computes, IsOfOne, IsValue, unit_of}
use Rattle.h41_rows.specs.declared.fault.LineFault.{LineFault}
use Rattle.h41_rows.specs.declared.fault.LineFault.TheVariants.{AlphaData}
use Rattle.h41_rows.specs.declared.values.ValueOfOne.{ValueOfOne}
use Rattle.h41_rows.specs.declared.values.ValueOfOne.TheVariants as ones
use Rattle.h41_rows.specs.declared.values.ValueOfTwo.{ValueOfTwo}

-- A test that is true, and one that is false.
pub where_true : (test : Bool) (A B : Type 0) → test ≡ true → A → MatchBool test A B
where_true test A B e a = subst (λ (t : Bool). MatchBool t A B) (sym e) a

pub where_false : (test : Bool) (A B : Type 0) → test ≡ false → B → MatchBool test A B
where_false test A B e b = subst (λ (t : Bool). MatchBool t A B) (sym e) b

-- A register with a number contains that number.
no_worth : (test : Bool) (text : Holding) → worth text ≡ None → worth (if test then text else Other) ≡ None
no_worth true text e = e
no_worth false text e = refl

worth_is_number : (number : Option ℤ) (register : List ℕ) → worth (holding number register) ≡ number
worth_is_number (Some number) register = refl
worth_is_number None register = no_worth (slice_index register 13 == 1) (Text (text_in register)) refl

-- The number in the register at an address.
abbrev worth_at : RegisterMap → ℕ → Option ℤ
worth_at memory address = worth (holding_of (register_at memory address))

-- The number in a place.
pub amount_of : (memory : RegisterMap) (named : ℕ) (a : RowPlace) (address : ℕ) (number : ℤ) → place_address named a ≡ address
    → worth_at memory address ≡ Some number → number ≡ amount_in memory named a
amount_of memory named a address number e w = search rules

pub number_of : (memory : RegisterMap) (named : ℕ) (a : RowPlace) (address : ℕ) (number : Option ℤ) → place_address named a ≡ address
    → worth_at memory address ≡ number → number_in (register_in memory named a) ≡ number
number_of memory named a address number e w = search (rules, worth_is_number)

-- A register in a place contains the same number as the register itself.
held_there : (register : List ℕ) (other : RegisterMap) (named : ℕ) (a : RowPlace) (number : Option ℤ)
    → register_in other named a ≡ register → worth (holding_of register) ≡ number
    → worth (holding_of (register_in other named a)) ≡ number
held_there register other named a number e w = ap (λ (r : List ℕ). worth (holding_of r)) e ∙ w

amount_there : (register : List ℕ) (other : RegisterMap) (named : ℕ) (a : RowPlace) (number : ℤ)
    → register_in other named a ≡ register → worth (holding_of register) ≡ Some number → number ≡ amount_in other named a
amount_there register other named a number e w = search (rules, amount_of, held_there)

number_there : (register : List ℕ) (other : RegisterMap) (named : ℕ) (a : RowPlace) (number : Option ℤ)
    → register_in other named a ≡ register → worth (holding_of register) ≡ number
    → number_in (register_in other named a) ≡ number
number_there register other named a number e w = search (rules, number_of, held_there)

-- A value of one place.
is_of_one : (value : ValueOfOne) (memory : RegisterMap) (named : ℕ) (a : RowPlace) (number : ℤ) (places : Places)
    (answer : Result Ten DecimalFault)
    → number ≡ amount_in memory named a → worth (holding_of (register_in memory named a)) ≡ Some number
    → RoundsAt value memory places → IsOfOne value places number answer → IsValue (OfOne value a) memory named answer
is_of_one ones.Displayed memory named a number places answer e w at is = search rules
is_of_one ones.Unit memory named a number places answer e w at is = search rules
is_of_one value memory named a number places answer e w at is = subst (λ (t : ℤ). IsOfOne value places t answer) e is

pub computes_one : (value : ValueOfOne) (memory : RegisterMap) (named : ℕ) (a : RowPlace) (number : Ten)
    (places : Places) (result : Result (List ℕ) LineFault)
    → units number ≡ amount_in memory named a → worth (holding_of (register_in memory named a)) ≡ Some (units number)
    → RoundsAt value memory places → KeptOne value places (flag_of memory range_ignore) number result
    → Computes (OfOne value a) memory named result
computes_one value memory named a number places result e w at k = search (rules, is_of_one)

pub works_one : (value : ValueOfOne) (register : List ℕ) (places : Places) (ignores_range : Bool) (number : Ten)
    (result : Result (List ℕ) LineFault)
    → worth (holding_of register) ≡ Some (units number) → KeptOne value places ignores_range number result
    → WorksOnRegister value register places ignores_range result
works_one value register places ignores_range number result w k memory named a e at flag =
    search (rules, amount_there, held_there, number_there, computes_one, where_true)

-- The unit of a register without a number.
unit_of_none : (memory : RegisterMap) (named : ℕ) (a : RowPlace) (result : Result (List ℕ) LineFault)
    → worth (holding_of (register_in memory named a)) ≡ None → IsOkAnd result (λ register. IsAlways (Given (pos 0)) register)
    → Computes (OfOne ones.Unit a) memory named result
unit_of_none memory named a (Ok register) none always =
    let zero = always memory named in
    record {
      answer = zero.answer;
      nearest = subst (λ (o : Option ℤ). Nearest (option_map_or unit_of o (pos 0)) 1 zero.answer) (sym none) zero.nearest;
      kept = zero.kept;
    }
unit_of_none memory named a (Err fault) none always = absurd always

pub works_without : (value : ValueOfOne) (register : List ℕ) (places : Places) (ignores_range : Bool) (fault : LineFault)
    (result : Result (List ℕ) LineFault)
    → worth (holding_of register) ≡ None → fault ≡ AlphaData → WithoutNumber value fault result
    → WorksOnRegister value register places ignores_range result
works_without value register places ignores_range fault result w f without memory named a e at flag =
    search (rules, held_there, number_there, unit_of_none, where_false)

-- A value of the register at an address.
pub one_at : (value : ValueOfOne) (memory : RegisterMap) (address : ℕ) (register : List ℕ) (places : Places) (ignores_range : Bool)
    (result : Result (List ℕ) LineFault)
    → register ≡ register_at memory address → RoundsAt value memory places → ignores_range ≡ flag_of memory range_ignore
    → WorksOnRegister value register places ignores_range result → WorksOnOne value memory address result
one_at value memory address register places ignores_range result same at flag works named a e = search rules

-- A value of two places.
pub computes_two : (value : ValueOfTwo) (memory : RegisterMap) (named : ℕ) (a b : RowPlace) (x y : Ten) (result : Result (List ℕ) LineFault)
    → units x ≡ amount_in memory named a → units y ≡ amount_in memory named b
    → KeptTwo value (flag_of memory range_ignore) x y result → Computes (OfTwo value a b) memory named result
computes_two value memory named a b x y result e f k = search rules

-- Both places contain numbers.
both_numbers : (o p : Option ℤ) (x y : ℤ) → o ≡ Some x → p ≡ Some y → (is_some o && (is_some p && true)) ≡ true
both_numbers o p x y e f = ap (λ (t : Option ℤ). is_some t && (is_some p && true)) e ∙ ap (λ (t : Option ℤ). is_some t && true) f

-- The first or the second place contains none.
first_without : (o p : Option ℤ) → o ≡ None → (is_some o && (is_some p && true)) ≡ false
first_without o p e = ap (λ (t : Option ℤ). is_some t && (is_some p && true)) e

second_without : (o p : Option ℤ) → p ≡ None → (is_some o && (is_some p && true)) ≡ false
second_without None p e = refl
second_without (Some x) p e = ap (λ (t : Option ℤ). is_some t && true) e

-- A value of the numbers in two registers.
pub works_two : (value : ValueOfTwo) (first second : List ℕ) (ignores_range : Bool) (x y : Ten) (result : Result (List ℕ) LineFault)
    → worth (holding_of first) ≡ Some (units x) → worth (holding_of second) ≡ Some (units y) → KeptTwo value ignores_range x y result
    → WorksOnRegisters value first second ignores_range result
works_two value first second ignores_range x y result v w k other named a b e f flag =
    let are = both_numbers _ _ (units x) (units y)
    (number_there first other named a (Some (units x)) e v)
    (number_there second other named b (Some (units y)) f w) in
    where_true _ _ _ are
    (computes_two value other named a b x y result
    (amount_there first other named a (units x) e v) (amount_there second other named b (units y) f w)
    (subst (λ (ignored : Bool). KeptTwo value ignored x y result) (sym flag) k))

pub first_fails : (value : ValueOfTwo) (first second : List ℕ) (ignores_range : Bool) (fault : LineFault)
    → worth (holding_of first) ≡ None → fault ≡ AlphaData → WorksOnRegisters value first second ignores_range (Err fault)
first_fails value first second ignores_range fault w said other named a b e f flag =
    search (rules, where_false, first_without, number_there)

pub second_fails : (value : ValueOfTwo) (first second : List ℕ) (ignores_range : Bool) (fault : LineFault)
    → worth (holding_of second) ≡ None → fault ≡ AlphaData → WorksOnRegisters value first second ignores_range (Err fault)
second_fails value first second ignores_range fault w said other named a b e f flag =
    search (rules, where_false, second_without, number_there)
