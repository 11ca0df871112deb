use Rattle.std.proofs.Common.{◌≡◌, ℕ, ◌+◌, ◌^◌, ◌≤◌, true, false, List, [], ◌∷◌, ◌++◌, length, take, refl, ap, subst, sym, ◌∙◌, inl, arith}
use Rattle.h41_arith.specs.DigitRule.{SumInto, zeros}
use Rattle.h41_arith.specs.DigitRuleLaws.{SumIsOfNumbers, number_of}
use Rattle.h41_fields.specs.Field.{first_place, last_place, places, register_places}
use Rattle.h41_fields.specs.declared.field.Field.TheVariants.{SignAndExponent}
use Rattle.h41_laws_words.specs.WholeStates.{IsWhole}
use Rattle.h41_nut.specs.Addresses.{is_closed}
use Rattle.h41_nut.specs.Arithmetic.{base_number}
use Rattle.h41_nut.specs.Jumps.{newest_return}
use Rattle.h41_nut.specs.WordStep.{Nut}
use Rattle.h41_nut.specs.declared.base.Base.TheVariants.{Hexadecimal}
use Rattle.h41_pages.specs.PageMap.{PageMap, with_chosen}
use Rattle.h41_words.specs.WordTable as words
use Rattle.h41_words.specs.declared.rows.Bank.TheVariants.{First, Second}
use Rattle.h41_reasoning.specs.Runs.{HasBankWords, Takes}
use Rattle.h41_reasoning.specs.WordRuns.{ArithmeticIsExecuted, StepsTo, WordIsExecuted}
use Rattle.h41_reasoning.proofs.Banks.{bank_active, bank_again}
use Rattle.h41_reasoning.proofs.Calls.{calls_keep_returns}
use Rattle.h41_reasoning.proofs.FieldWords.{c_incremented}
use Rattle.h41_reasoning.proofs.Jumps.{long_jump_taken, returned}
use Rattle.h41_reasoning.proofs.Numbers.{fits_without_carry, incremented}
use Rattle.h41_reasoning.proofs.OneWord.{bank_enabled}
use Rattle.h41_reasoning.proofs.Rounds.{takes_none, takes_step}
use Rattle.h41_proved_words.specs.OtherBank.{HasAddedThere, HasFirstBank, OtherBankReturns, second_bank_words}

module _ (straight : WordIsExecuted) (arithmetic : ArithmeticIsExecuted) (of_numbers : SumIsOfNumbers) (s : Nut)
    (one : HasFirstBank s.pages) (two : HasBankWords s.pages Second 0x8011 second_bank_words)
    (base : s.processor.base ≡ Hexadecimal) where
  -- The state at an address, with pages, a C and return addresses, and the carry clear.
  abbrev there : ℕ → PageMap → List ℕ → List ℕ → Nut
  there address pages c returns =
      record s { pages = pages; processor = record s.processor { c = c; carry = false; pc = address; returns = returns } }

  abbrev other_pages : PageMap
  other_pages = with_chosen s.pages 8 Second

  abbrev inner : List ℕ
  inner = 0x8002 ∷ take 3 s.processor.returns

  -- The call and ENBANK2.
  called : IsWhole (there 0x8000 s.pages s.processor.c s.processor.returns)
      → StepsTo (there 0x8000 s.pages s.processor.c s.processor.returns) (there 0x8010 s.pages s.processor.c inner)
  unfolding words.number_of
  called whole =
      long_jump_taken straight _ whole 0x10 0x200 (omega arith) (one.caller 0 (omega arith)) (one.caller 1 (omega arith)) refl refl

  to_second : IsWhole (there 0x8010 s.pages s.processor.c inner)
      → StepsTo (there 0x8010 s.pages s.processor.c inner) (there 0x8011 other_pages s.processor.c inner)
  unfolding words.number_of
  to_second whole = bank_enabled straight _ whole refl Second (one.beginning 0 (omega arith))

  -- C=C+1 S&X in bank 2.
  added : IsWhole (there 0x8011 other_pages s.processor.c inner) → number_of 16 s.processor.c 0 2 ≤ 0xFFE
      → (z : List ℕ) × SumInto 16 s.processor.c s.processor.c zeros true 0 2 z false
      × (number_of 16 z 0 2 ≡ number_of 16 s.processor.c 0 2 + 1)
      × StepsTo (there 0x8011 other_pages s.processor.c inner) (there 0x8012 other_pages z inner)
  unfolding words.number_of first_place last_place places register_places
  added whole less =
      let found = c_incremented arithmetic SignAndExponent _ whole refl (two 0 (omega arith)) in
      let z = found.0 in
      let sum : SumInto 16 s.processor.c s.processor.c zeros true 0 2 z found.1 =
      subst (λ mode. SumInto (base_number mode) s.processor.c s.processor.c zeros true 0 2 z found.1) base found.2 in
      let number =
      incremented 16 0 2 s.processor.c s.processor.c z found.1 (omega arith) (omega arith)
      (inl (refl, whole.processor.abc.c)) of_numbers sum in
      let fits = fits_without_carry found.1 (number_of 16 z 0 2) (16 ^ 3) (number_of 16 s.processor.c 0 2 + 1) number
      (omega (arith, less)) in (
        z,
        subst (λ carry. SumInto 16 s.processor.c s.processor.c zeros true 0 2 z carry) fits.0 sum,
        fits.1,
        subst (λ carry. StepsTo (there 0x8011 other_pages s.processor.c inner)
            (record (there 0x8012 other_pages z inner) {
              processor = record (there 0x8012 other_pages z inner).processor { carry = carry };
            })) fits.0 found.3,
      )

  -- ENBANK1: the pages are again as at the beginning.
  to_first : (z : List ℕ) → IsWhole (there 0x8012 other_pages z inner)
      → StepsTo (there 0x8012 other_pages z inner) (there 0x8013 s.pages z inner)
  unfolding words.number_of
  to_first z whole =
      subst (λ pages. StepsTo (there 0x8012 other_pages z inner) (there 0x8013 pages z inner))
      (bank_again s.pages 8 Second First one.plugged ∙ bank_active s.pages 8 First one.plugged one.active)
      (bank_enabled straight _ whole refl First (two 1 (omega arith)))

  proved : IsWhole (there 0x8000 s.pages s.processor.c s.processor.returns) → length s.processor.returns ≡ 4
      → is_closed (newest_return s.processor) ≡ false → number_of 16 s.processor.c 0 2 ≤ 0xFFE
      → Takes 6 (there 0x8000 s.pages s.processor.c s.processor.returns) (HasAddedThere s)
  unfolding words.number_of
  proved whole size returns less =
      let kept = calls_keep_returns s.processor.returns size in
      let first = called whole in
      let second = to_second first.whole in
      let third = added second.whole less in
      let fourth = to_first third.0 third.3.whole in
      let fifth = returned straight (there 0x8013 s.pages third.0 inner) fourth.whole (one.ending 0 (omega arith)) refl in
      takes_step 5 _ _ _ first
      (takes_step 4 _ _ _ second
      (takes_step 3 _ _ _ third.3
      (takes_step 2 _ _ _ fourth
      (takes_step 1 _ _ _ fifth
      (takes_step 0 _ _ _
      (returned straight (there 0x8002 s.pages third.0 (take 3 s.processor.returns ++ 0 ∷ [])) fifth.whole
      (one.caller 2 (omega arith)) (ap is_closed kept.1 ∙ returns))
      (takes_none _ (HasAddedThere s)
      (assumption (kept, third))))))))

pub other_bank : WordIsExecuted → ArithmeticIsExecuted → SumIsOfNumbers → OtherBankReturns
other_bank straight arithmetic of_numbers s whole next one two returns size carry base less =
    let here : record s { processor = record s.processor { pc = 0x8000; carry = false } } ≡ s = rw (← next, ← carry) refl in
    subst (λ t. Takes 6 t (HasAddedThere s)) here
    (proved straight arithmetic of_numbers s one two base (subst IsWhole (sym here) whole) size returns less)
