-- What lines compute has an answer, and the answer has a register.
use Rattle.h41_laws_calculator.proofs.Chosen.{one_there, through}
use Rattle.std.proofs.Common.{◌≡◌, ℕ, ◌-◌, ◌*◌, ◌<◌, List, Option, Some, None, Result, Ok, Err, Bool, true, false}
use Rattle.std.proofs.Common.{MatchBool, IsOkAnd, refl, sym, ◌∙◌, arith}
use Rattle.std.specs.Prelude.{ℤ, pos, neg_ℤ, ◌+ℤ◌, ◌-ℤ◌, ◌*ℤ◌, unsigned_abs}
use Rattle.std.specs.Option.{option_map_or}
use Rattle.h41_decimal.specs.Holding.{holding_of, worth}
use Rattle.h41_decimal.specs.NumberEntry.{size_of_greatest}
use Rattle.h41_decimal.specs.Operations.{step_of}
use Rattle.h41_decimal.specs.Signs.{with_sign}
use Rattle.h41_decimal.specs.Units.{one, units}
use Rattle.h41_decimal.specs.declared.fault.DecimalFault.{DecimalFault}
use Rattle.h41_decimal.specs.declared.fault.DecimalFault.TheVariants.{Data, Range}
use Rattle.h41_decimal.specs.declared.places.Places.{Places}
use Rattle.h41_decimal.specs.declared.places.Places.TheVariants.{Decimals, Digits}
use Rattle.h41_decimal.specs.declared.sign.Sign.{Sign}
use Rattle.h41_decimal.specs.declared.ten.Ten.{Ten}
use Rattle.h41_decimal.specs.declared.ten.Ten.TheVariants.{Zero, Nonzero}
use Rattle.h41_decimal.proofs.Nearest.{ten_pow_pos}
use Rattle.h41_decimal.proofs.Registers.{worth-holding_of}
use Rattle.h41_ram.specs.NamedFlags.{range_ignore}
use Rattle.h41_ram.specs.RegisterMap.{RegisterMap, flag_of}
use Rattle.h41_show.specs.DisplayFormat.{format_of}
use Rattle.h41_rows.specs.Places.{RowPlace, amount_in, are_numbers, register_in}
use Rattle.h41_rows.specs.RowLaws.{ValuesAreDetermined}
use Rattle.h41_rows.specs.Rows.{places_in_value}
use Rattle.h41_rows.specs.Counters.{Up, Down, number_after}
use Rattle.h41_rows.specs.Values.{Value, Given, Written, OfOne, OfTwo, IsOfOne, IsOfTwo, IsValue, IsRegisterOf, Kept, Computes, places_of}
use Rattle.h41_rows.specs.Values.{sign_of_value, unit_of}
use Rattle.h41_rows.specs.declared.fault.LineFault.{LineFault}
use Rattle.h41_rows.specs.declared.fault.LineFault.TheVariants.{AlphaData, DataError, OutOfRange}
use Rattle.h41_rows.specs.declared.values.ValueOfOne.{ValueOfOne}
use Rattle.h41_rows.specs.declared.values.ValueOfOne.TheVariants as ones
use Rattle.h41_rows.specs.declared.values.ValueOfTwo.{ValueOfTwo}
use Rattle.h41_rows.specs.declared.values.ValueOfTwo.TheVariants as twos
use Rattle.h41_laws_words.specs.DecimalAnswers.{DecimalHasOneRegister, FractionHasOneNearest, HoldsNumber, ModuloHasOneNearest}
use Rattle.h41_laws_words.specs.DecimalAnswers.{NumberHasOneFraction, NumberHasOneInteger, NumberHasOneOfSteps, QuotientHasOneNearest}
use Rattle.h41_laws_words.specs.DecimalAnswers.{RegisterHoldsDecimal, RootHasOneNearest}
use Rattle.h41_laws_words.specs.HasOne.{HasOne}
use Rattle.h41_laws_words.proofs.Answering.{Has, has_one}
use Rattle.h41_laws_words.proofs.Rounding.{ten_of, units-ten_of}
use Rattle.h41_laws_calculator.specs.LineValues.{NumberLineHasOneNumber, ValueHasOneAnswer, ValueHasOneRegister}

-- What has exactly one answer has one.
some : {A : Type 0} (IsRight : A → Type 0) → HasOne IsRight → Has IsRight
some IsRight one = record { answer = one.answer; right = one.right }

-- A step is not zero.
step_pos : (places : Places) (number : Ten) → 0 < step_of places number
step_pos (Decimals count) number = ten_pow_pos (108 - count)
step_pos (Digits count) Zero = omega arith
step_pos (Digits count) (Nonzero sign x) = ten_pow_pos _

-- The decimal of what has the value of a number, or zero.
decimal_of : (held : Option ℤ) → ((number : ℤ) → held ≡ Some number → HasOne (λ (decimal : Ten). units decimal ≡ number))
    → Has (λ (decimal : Ten). units decimal ≡ option_map_or (λ number. number) held (pos 0))
decimal_of None found = record { answer = Zero; right = refl }
decimal_of (Some number) found = some _ (found number refl)

module _ (nearest : FractionHasOneNearest) (root : RootHasOneNearest) (quotient : QuotientHasOneNearest) (modulo : ModuloHasOneNearest)
    (steps : NumberHasOneOfSteps) (integer : NumberHasOneInteger) (fraction : NumberHasOneFraction) (line : NumberLineHasOneNumber)
    (register : DecimalHasOneRegister) (decimal : RegisterHoldsDecimal) where
  decimal_in_place : (memory : RegisterMap) (named : ℕ) (place : RowPlace)
      → Has (λ (number : Ten). units number ≡ amount_in memory named place)
  decimal_in_place memory named place =
      let held = register_in memory named place in
      decimal_of (worth (holding_of held)) (λ number is. decimal held number (sym (worth-holding_of held) ∙ is))

  is_of_one : (value : ValueOfOne) (memory : RegisterMap) (named : ℕ) (a : RowPlace)
      → Has (IsOfOne value (places_of (format_of memory)) (amount_in memory named a))
  is_of_one ones.Root memory named a = some _ (root (amount_in memory named a))
  is_of_one ones.Inverse memory named a = some _ (quotient (pos one) (amount_in memory named a))
  is_of_one ones.Negative memory named a = some _ (nearest (neg_ℤ (amount_in memory named a)) 1 (omega arith))
  is_of_one ones.AbsoluteValue memory named a = some _ (nearest (pos (unsigned_abs (amount_in memory named a))) 1 (omega arith))
  is_of_one ones.IntegerPart memory named a =
      through (one_there (integer (amount_in memory named a))) (λ part _. one_there (nearest part 1 (omega arith)))
  is_of_one ones.Fraction memory named a =
      through (one_there (fraction (amount_in memory named a))) (λ rest _. one_there (nearest rest 1 (omega arith)))
  is_of_one ones.Displayed memory named a =
      let places = places_of (format_of memory) in
      through (decimal_in_place memory named a) (λ x _. one_there (steps (step_of places x) (units x) (step_pos places x)))
  is_of_one ones.Unit memory named a = some _ (nearest (unit_of (amount_in memory named a)) 1 (omega arith))
  is_of_one ones.CountedUp memory named a = some _ (nearest (number_after Up (amount_in memory named a)) 1 (omega arith))
  is_of_one ones.CountedDown memory named a = some _ (nearest (number_after Down (amount_in memory named a)) 1 (omega arith))

  is_of_two : (value : ValueOfTwo) (memory : RegisterMap) (named : ℕ) (a b : RowPlace)
      → Has (IsOfTwo value (amount_in memory named a) (amount_in memory named b))
  is_of_two twos.Sum memory named a b = some _ (nearest (amount_in memory named a +ℤ amount_in memory named b) 1 (omega arith))
  is_of_two twos.Difference memory named a b = some _ (nearest (amount_in memory named a -ℤ amount_in memory named b) 1 (omega arith))
  is_of_two twos.Product memory named a b = some _ (nearest (amount_in memory named a *ℤ amount_in memory named b) one (ten_pow_pos 108))
  is_of_two twos.Quotient memory named a b = some _ (quotient (amount_in memory named a) (amount_in memory named b))
  is_of_two twos.Remainder memory named a b =
      let y = decimal_in_place memory named a in
      let x = decimal_in_place memory named b in
      let found = modulo y.answer x.answer in
      record { answer = found.answer; right = (y.answer, x.answer, y.right, x.right, found.right) }
  is_of_two twos.Percentage memory named a b =
      some _ (nearest (amount_in memory named a *ℤ amount_in memory named b) (100 * one) (ten_pow_pos 110))

  is_value : (value : Value) (memory : RegisterMap) (named : ℕ) → Has (IsValue value memory named)
  is_value (Given number) memory named = some _ (nearest number 1 (omega arith))
  is_value (Written characters) memory named = let found = line characters in record { answer = Ok found.answer; right = found.right }
  is_value (OfOne ones.Unit a) memory named =
      some _ (nearest (option_map_or unit_of (worth (holding_of (register_in memory named a))) (pos 0)) 1 (omega arith))
  is_value (OfOne value a) memory named = is_of_one value memory named a
  is_value (OfTwo value a b) memory named = is_of_two value memory named a b

  -- The register of an answer.
  of_number : (number : Ten) (n : ℤ) → units number ≡ n → Has (λ (result : Result (List ℕ) LineFault). IsOkAnd result (IsRegisterOf n))
  of_number number n is =
      let found = register number in
      let held : HoldsNumber n found.answer = rw (← is) found.right in
      record { answer = Ok found.answer; right = record { valid = held.valid; holds = held.holds } }

  out_of_range : (sign : Sign) (ignored : Bool) → Has (Kept sign ignored (Err Range))
  out_of_range sign true =
      of_number (ten_of sign 9999999999 198 record { at_least = omega arith; below = omega arith } (omega arith))
      (with_sign sign size_of_greatest)
      (units-ten_of sign 9999999999 198 record { at_least = omega arith; below = omega arith } (omega arith))
  out_of_range sign false = record { answer = Err OutOfRange; right = refl }

  kept : (sign : Sign) (ignored : Bool) (answer : Result Ten DecimalFault) → Has (Kept sign ignored answer)
  kept sign ignored (Ok number) = of_number number (units number) refl
  kept sign ignored (Err Data) = record { answer = Err DataError; right = refl }
  kept sign ignored (Err Range) = out_of_range sign ignored

  pub one_register : ValuesAreDetermined → ValueHasOneRegister
  one_register determined value memory named =
      let found = is_value value memory named in
      let result = kept (sign_of_value value memory named) (flag_of memory range_ignore) found.answer in
      has_one (record { answer = result.answer; right = record { answer = found.answer; nearest = found.right; kept = result.right } })
      (determined value memory named)

either : {A : Type 0} (t : Bool) (Then : A → Type 0) (other : A) → HasOne Then
    → HasOne (λ answer. MatchBool t (Then answer) (answer ≡ other))
either true Then other found = found
either false Then other found = record { answer = other; right = refl; only = λ answer same. same }

pub one_answer : ValueHasOneRegister → ValueHasOneAnswer
one_answer computed value memory named =
    either (are_numbers memory named (places_in_value value)) (Computes value memory named) (Err AlphaData) (computed value memory named)
