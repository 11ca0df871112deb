use Rattle.std.proofs.Common.{◌≡◌, ℕ, pos, ◌+◌, ◌*◌, ◌^◌, Bool, true, false, List, refl, ap, subst, sym, ◌∙◌, inr, arith}
use Rattle.std.specs.Int.Signed.{le_z_yes}
use Rattle.h41_arith.specs.DigitRule.{SumInto, carry_digit}
use Rattle.h41_arith.specs.DigitRuleLaws.{SumIsOfNumbers, number_of}
use Rattle.h41_fields.specs.Field.{first_place, last_place, places, register_places}
use Rattle.h41_fields.specs.declared.field.Field.TheVariants.{All}
use Rattle.h41_laws_words.specs.WholeStates.{IsWhole}
use Rattle.h41_nut.specs.Addresses.{is_closed}
use Rattle.h41_nut.specs.Jumps.{newest_return}
use Rattle.h41_nut.specs.Pointers.{is_status_set, with_status}
use Rattle.h41_nut.specs.ProcessorLaws.{StatusIsRead}
use Rattle.h41_nut.specs.WordStep.{Nut}
use Rattle.h41_nut.specs.declared.base.Base.{Base}
use Rattle.h41_nut.specs.declared.base.Base.TheVariants.{Decimal, Hexadecimal}
use Rattle.h41_words.specs.WordTable as words
use Rattle.h41_words.specs.declared.rows.Condition.TheVariants.{NoCarry}
use Rattle.h41_reasoning.specs.Runs.{HasWords, Reaches}
use Rattle.h41_reasoning.specs.WordRuns.{ArithmeticIsExecuted, StepsTo, WordIsExecuted}
use Rattle.h41_reasoning.proofs.FieldWords.{a_added_to_c}
use Rattle.h41_reasoning.proofs.Jumps.{returned, short_jump_passed, short_jump_taken}
use Rattle.h41_reasoning.proofs.OneWord.{decimal_set, hexadecimal_set, status_cleared, status_set}
use Rattle.h41_reasoning.proofs.Rounds.{at_end, by_step, more_suffice}
use Rattle.h41_proved_words.specs.DecimalSum.{DecimalSumReturns, IsDecimal, IsDecimalSum, decimal_sum_words}
use Rattle.h41_proved_words.proofs.FourWords.{at}

module _ (straight : WordIsExecuted) (arithmetic : ArithmeticIsExecuted) (of_numbers : SumIsOfNumbers) (status : StatusIsRead) (s : Nut)
    (has : HasWords s.pages 0x8000 decimal_sum_words) (returns : is_closed (newest_return s.processor) ≡ false)
    (a_digits : IsDecimal s.processor.a) (c_digits : IsDecimal s.processor.c) where
  -- The status bits with bit 0 clear, and with it set again.
  abbrev clear : ℕ
  clear = (with_status 0 false s.processor).status

  abbrev set_again : ℕ
  set_again = (with_status 0 true (record s.processor { status = clear })).status

  -- The state at an address.
  abbrev there : ℕ → List ℕ → Bool → Base → ℕ → Nut
  there address c carry base bits =
      record s { processor = record s.processor { c = c; carry = carry; pc = address; base = base; status = bits } }

  cleared : IsWhole (at 0x8000 s) → StepsTo (at 0x8000 s) (there 0x8001 s.processor.c false s.processor.base clear)
  unfolding words.number_of
  cleared whole = status_cleared straight (at 0x8000 s) whole refl 0 (omega arith) (has 0 (omega arith))

  decimal : IsWhole (there 0x8001 s.processor.c false s.processor.base clear)
      → StepsTo (there 0x8001 s.processor.c false s.processor.base clear) (there 0x8002 s.processor.c false Decimal clear)
  unfolding words.number_of
  decimal whole = decimal_set straight _ whole refl (has 1 (omega arith))

  added : IsWhole (there 0x8002 s.processor.c false Decimal clear)
      → (z : List ℕ) × (carry : Bool) × SumInto 10 s.processor.c s.processor.a s.processor.c false 0 13 z carry
      × StepsTo (there 0x8002 s.processor.c false Decimal clear) (there 0x8003 z carry Decimal clear)
  unfolding words.number_of first_place last_place places register_places
  added whole = a_added_to_c arithmetic All _ whole refl (has 2 (omega arith))

  -- SETHEX and RTN.
  ended : (z : List ℕ) (bits : ℕ) → IsWhole (there 0x8005 z false Decimal bits)
      → number_of 10 z 0 13 + carry_digit (is_status_set 0 (record s.processor { status = bits })) * 10 ^ 14
      ≡ number_of 10 s.processor.a 0 13 + number_of 10 s.processor.c 0 13
      → Reaches 2 (there 0x8005 z false Decimal bits) (IsDecimalSum s)
  unfolding words.number_of
  ended z bits whole sum =
      let one : StepsTo (there 0x8005 z false Decimal bits) (there 0x8006 z false Hexadecimal bits) =
      hexadecimal_set straight _ whole refl (has 5 (omega arith)) in
      by_step 1 _ _ _ one
      (by_step 0 _ _ _ (returned straight _ one.whole (has 6 (omega arith)) returns)
      (at_end _ (IsDecimalSum s)
      assumption))

  -- The jump, which is taken if there is no carry, and SETF 0.
  rest : (z : List ℕ) (carry : Bool) → IsWhole (there 0x8003 z carry Decimal clear)
      → number_of 10 z 0 13 + carry_digit carry * 10 ^ 14 ≡ number_of 10 s.processor.a 0 13 + number_of 10 s.processor.c 0 13
      → Reaches 4 (there 0x8003 z carry Decimal clear) (IsDecimalSum s)
  unfolding words.number_of
  rest z true whole sum =
      let one : StepsTo (there 0x8003 z true Decimal clear) (there 0x8004 z false Decimal clear) =
      short_jump_passed straight _ whole NoCarry (pos 2) (le_z_yes tt, le_z_yes tt) (has 3 (omega arith)) refl refl in
      let two : StepsTo (there 0x8004 z false Decimal clear) (there 0x8005 z false Decimal set_again) =
      status_set straight _ one.whole refl 0 (omega arith) (has 4 (omega arith)) in
      by_step 3 _ _ _ one
      (by_step 2 _ _ _ two
      (ended z set_again two.whole
      (ap (λ bit. number_of 10 z 0 13 + carry_digit bit * 10 ^ 14) (status (record s.processor { status = clear }) 0 true) ∙ sum)))
  rest z false whole sum =
      let one : StepsTo (there 0x8003 z false Decimal clear) (there 0x8005 z false Decimal clear) =
      short_jump_taken straight _ whole NoCarry (pos 2) (le_z_yes tt, le_z_yes tt) (has 3 (omega arith)) refl refl in
      more_suffice 3 4 _ (IsDecimalSum s) (omega arith)
      (by_step 2 _ _ _ one
      (ended z clear one.whole
      (ap (λ bit. number_of 10 z 0 13 + carry_digit bit * 10 ^ 14) (status s.processor 0 false) ∙ sum)))

  proved : IsWhole (at 0x8000 s) → Reaches 7 (at 0x8000 s) (IsDecimalSum s)
  proved whole =
      let one = cleared whole in
      let two = decimal one.whole in
      let three = added two.whole in
      let sum =
      of_numbers 10 0 13 s.processor.c s.processor.a s.processor.c three.0 false three.1 (omega arith) (omega arith)
      (inr (refl, λ place from to. a_digits place to)) (inr (refl, λ place from to. c_digits place to)) three.2 in
      by_step 6 _ _ _ one
      (by_step 5 _ _ _ two (by_step 4 _ _ _ three.3 (rest three.0 three.1 three.3.whole (omega (arith, sum)))))

pub decimal_sum : WordIsExecuted → ArithmeticIsExecuted → SumIsOfNumbers → StatusIsRead → DecimalSumReturns
decimal_sum straight arithmetic of_numbers status s whole next has returns a_digits c_digits =
    let here : at 0x8000 s ≡ s = ap (λ address. at address s) (sym next) in
    subst (λ t. Reaches 7 t (IsDecimalSum s)) here
    (proved straight arithmetic of_numbers status s has returns a_digits c_digits (subst IsWhole (sym here) whole))
