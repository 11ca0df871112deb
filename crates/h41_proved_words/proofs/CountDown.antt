use Rattle.std.proofs.Common.{◌≡◌, ℕ, suc, ◌+◌, ◌*◌, ◌^◌, Bool, true, false, List, negsuc, refl, ap, subst, sym, inl, arith}
use Rattle.std.specs.Int.Signed.{le_z_yes}
use Rattle.h41_arith.specs.DigitRule.{DifferenceInto, KeepsOutside, is_nonzero, zeros}
use Rattle.h41_arith.specs.DigitRuleLaws.{DifferenceIsOfNumbers, DifferentAtAPlace, number_of}
use Rattle.h41_fields.specs.Field.{first_place, last_place, places, register_places}
use Rattle.h41_fields.specs.declared.field.Field.TheVariants.{SignAndExponent}
use Rattle.h41_laws_words.specs.WholeStates.{IsWhole}
use Rattle.h41_nut.specs.Addresses.{is_closed}
use Rattle.h41_nut.specs.Arithmetic.{base_number}
use Rattle.h41_nut.specs.Jumps.{newest_return}
use Rattle.h41_nut.specs.WordStep.{Nut}
use Rattle.h41_nut.specs.declared.base.Base.TheVariants.{Hexadecimal}
use Rattle.h41_words.specs.WordTable as words
use Rattle.h41_words.specs.declared.operation.Operation.TheVariants.{TestCNonzero}
use Rattle.h41_words.specs.declared.rows.Condition.TheVariants.{NoCarry}
use Rattle.h41_reasoning.specs.Runs.{HasWords, Takes}
use Rattle.h41_reasoning.specs.WordRuns.{ArithmeticIsExecuted, StepsTo, WordIsExecuted}
use Rattle.h41_reasoning.proofs.Digits.{exponent_below, keeps_in_turn}
use Rattle.h41_reasoning.proofs.FieldWords.{c_decremented, operated}
use Rattle.h41_reasoning.proofs.Jumps.{return_passed, return_taken, short_jump_taken}
use Rattle.h41_reasoning.proofs.Numbers.{decremented, left_without_borrow, some_number, zero_number}
use Rattle.h41_reasoning.proofs.Rounds.{counts_down, takes_none, takes_step}
use Rattle.h41_proved_words.specs.CountDown.{CountDownReturns, IsCountedDown, count_down_words}
use Rattle.h41_proved_words.proofs.FourWords.{at}

module _ (straight : WordIsExecuted) (arithmetic : ArithmeticIsExecuted) (of_numbers : DifferenceIsOfNumbers)
    (at_a_place : DifferentAtAPlace) (s : Nut) (has : HasWords s.pages 0x8000 count_down_words)
    (returns : is_closed (newest_return s.processor) ≡ false) (base : s.processor.base ≡ Hexadecimal) where
  -- The state at an address of the loop, with what C and the carry have become.
  abbrev with_c : ℕ → List ℕ → Bool → Nut
  with_c address c carry = record s { processor = record s.processor { c = c; carry = carry; pc = address } }

  -- At the label: a number is left to count.
  record IsAtLoop (left : ℕ) (t : Nut) : Type 0 where
    whole : IsWhole t
    c : List ℕ
    carry : Bool
    is : t ≡ with_c 0x8000 c carry
    counted : number_of 16 c 0 2 ≡ left
    others : KeepsOutside s.processor.c 0 2 c

  -- A round from a C, with the test and the return that follow the label.
  module _ (c : List ℕ) (carry : Bool) (whole : IsWhole (with_c 0x8000 c carry)) (others : KeepsOutside s.processor.c 0 2 c) where
    tested : (answer : Bool) → is_nonzero c 0 2 ≡ answer → StepsTo (with_c 0x8000 c carry) (with_c 0x8001 c answer)
    unfolding words.number_of first_place last_place places register_places
    tested answer test =
        subst (λ other. StepsTo (with_c 0x8000 c carry) (with_c 0x8001 c other)) test
        (operated arithmetic SignAndExponent (with_c 0x8000 c carry) whole refl TestCNonzero
        (with_c 0x8001 c (is_nonzero c 0 2)).processor (λ t is. is) (has 0 (omega arith)))

    last : is_nonzero c 0 2 ≡ false → Takes 2 (with_c 0x8000 c carry) (IsCountedDown s)
    unfolding words.number_of
    last test =
        let one = tested false test in
        takes_step 1 _ _ _ one
        (takes_step 0 _ _ _ (return_taken straight _ one.whole NoCarry (has 1 (omega arith)) refl returns)
        (takes_none _ (IsCountedDown s)
        (assumption (zero_number at_a_place 16 0 2 c (omega arith) test))))

    passed : is_nonzero c 0 2 ≡ true → StepsTo (with_c 0x8001 c true) (with_c 0x8002 c false)
    unfolding words.number_of
    passed test = return_passed straight (with_c 0x8001 c true) (tested true test).whole NoCarry (has 1 (omega arith)) refl refl

    less_one : (test : is_nonzero c 0 2 ≡ true)
        → (z : List ℕ) × (borrow : Bool) × DifferenceInto 16 c c zeros true 0 2 z borrow
        × StepsTo (with_c 0x8002 c false) (with_c 0x8003 z borrow)
    unfolding words.number_of first_place last_place places register_places
    less_one test =
        let found = c_decremented arithmetic SignAndExponent (with_c 0x8002 c false) (passed test).whole refl (has 2 (omega arith)) in (
          found.0,
          found.1,
          subst (λ mode. DifferenceInto (base_number mode) c c zeros true 0 2 found.0 found.1) base found.2,
          found.3,
        )

    round : (left : ℕ) → is_nonzero c 0 2 ≡ true → number_of 16 c 0 2 ≡ suc left → Takes 4 (with_c 0x8000 c carry) (IsAtLoop left)
    unfolding words.number_of
    round left test counted =
        let less = less_one test in
        let z = less.0 in
        let number = decremented 16 0 2 c c z less.1 (omega arith) (omega arith) (inl (refl, whole.processor.abc.c)) of_numbers less.2 in
        let small = exponent_below z less.2.register in
        let more = left_without_borrow less.1 (number_of 16 z 0 2) (16 ^ 3) (number_of 16 c 0 2) number (omega (arith, small))
        (omega (arith, counted)) in
        let three : StepsTo (with_c 0x8002 c false) (with_c 0x8003 z false) =
        subst (λ borrow. StepsTo (with_c 0x8002 c false) (with_c 0x8003 z borrow)) more.0 less.3 in
        let four = short_jump_taken straight (with_c 0x8003 z false) three.whole NoCarry (negsuc 2) (le_z_yes tt, le_z_yes tt)
        (has 3 (omega arith)) refl refl in
        takes_step 3 _ _ _ (tested true test)
        (takes_step 2 _ _ _ (passed test)
        (takes_step 1 _ _ _ three
        (takes_step 0 _ _ _ four
        (takes_none _ (IsAtLoop left)
        (record {
          whole = four.whole;
          c = z;
          carry = false;
          is = refl;
          counted = omega (arith, more.1, counted);
          others = keeps_in_turn s.processor.c c z 0 2 others less.2.outside;
        })))))

  -- Whether the number is zero is what the test answers.
  some_left : (c : List ℕ) (left : ℕ) → number_of 16 c 0 2 ≡ suc left → (answer : Bool) → is_nonzero c 0 2 ≡ answer
      → is_nonzero c 0 2 ≡ true
  some_left c left counted true test = test
  some_left c left counted false test = absurd (omega (arith, counted, zero_number at_a_place 16 0 2 c (omega arith) test))

  none_left : (c : List ℕ) → number_of 16 c 0 2 ≡ 0 → (answer : Bool) → is_nonzero c 0 2 ≡ answer → is_nonzero c 0 2 ≡ false
  none_left c counted true test = absurd (omega (arith, counted, some_number at_a_place 16 0 2 c (omega arith) test))
  none_left c counted false test = test

  proved : IsWhole (at 0x8000 s) → Takes (4 * number_of 16 s.processor.c 0 2 + 2) (at 0x8000 s) (IsCountedDown s)
  proved whole =
      counts_down IsAtLoop (IsCountedDown s) 4 2
      (λ left t at_loop.
      let here = subst IsWhole at_loop.is at_loop.whole in
      subst (λ u. Takes 4 u (IsAtLoop left)) (sym at_loop.is)
      (round at_loop.c at_loop.carry here at_loop.others left
      (some_left at_loop.c left at_loop.counted (is_nonzero at_loop.c 0 2) refl) at_loop.counted))
      (λ t at_loop.
      let here = subst IsWhole at_loop.is at_loop.whole in
      subst (λ u. Takes 2 u (IsCountedDown s)) (sym at_loop.is)
      (last at_loop.c at_loop.carry here at_loop.others
      (none_left at_loop.c at_loop.counted (is_nonzero at_loop.c 0 2) refl)))
      (number_of 16 s.processor.c 0 2) (at 0x8000 s)
      (record {
        whole = whole;
        c = s.processor.c;
        carry = s.processor.carry;
        is = refl;
        counted = refl;
        others = record { below = λ place less. refl; above = λ place more. refl };
      })

pub count_down : WordIsExecuted → ArithmeticIsExecuted → DifferenceIsOfNumbers → DifferentAtAPlace → CountDownReturns
count_down straight arithmetic of_numbers at_a_place s whole next has returns base =
    let here : at 0x8000 s ≡ s = ap (λ address. at address s) (sym next) in
    subst (λ t. Takes (4 * number_of 16 s.processor.c 0 2 + 2) t (IsCountedDown s)) here
    (proved straight arithmetic of_numbers at_a_place s has returns base (subst IsWhole (sym here) whole))
