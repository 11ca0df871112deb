use Rattle.std.proofs.Common.{◌≡◌, ◌+◌, ◌^◌, true, Ok, refl, subst, inl, arith}
use Rattle.h41_arith.specs.DigitRule.{SumInto, zeros}
use Rattle.h41_arith.specs.DigitRuleLaws.{SumIsOfNumbers, number_of}
use Rattle.h41_fields.specs.Field.{first_place, last_place, places, register_places}
use Rattle.h41_fields.specs.declared.field.Field.TheVariants.{SignAndExponent}
use Rattle.h41_nut.specs.Arithmetic.{base_number}
use Rattle.h41_nut.specs.PageWords.{word_at}
use Rattle.h41_words.specs.WordTable as words
use Rattle.h41_reasoning.specs.Runs.{HasReturned}
use Rattle.h41_reasoning.specs.WordRuns.{ArithmeticIsExecuted, WordIsExecuted}
use Rattle.h41_reasoning.proofs.FieldWords.{c_incremented}
use Rattle.h41_reasoning.proofs.Jumps.{returned}
use Rattle.h41_reasoning.proofs.Numbers.{fits_without_carry, incremented}
use Rattle.h41_reasoning.proofs.Rounds.{takes_none, takes_step}
use Rattle.h41_proved_words.specs.Increment.{IncrementReturns, IsIncremented}

pub increment : WordIsExecuted → ArithmeticIsExecuted → SumIsOfNumbers → IncrementReturns
unfolding words.number_of first_place last_place places register_places
increment straight arithmetic of_numbers s whole below has inside returns base less =
    let here : word_at s.pages s.processor.pc ≡ Ok 0x226 =
    subst (λ address. word_at s.pages address ≡ Ok 0x226) (omega (arith, below)) (has 0 (omega arith)) in
    let one = c_incremented arithmetic SignAndExponent s whole inside here in
    let z = one.0 in
    let sum : SumInto 16 s.processor.c s.processor.c zeros true 0 2 z one.1 =
    subst (λ mode. SumInto (base_number mode) s.processor.c s.processor.c zeros true 0 2 z one.1) base one.2 in
    let number =
    incremented 16 0 2 s.processor.c s.processor.c z one.1 (omega arith) (omega arith)
    (inl (refl, whole.processor.abc.c)) of_numbers sum in
    let fits = fits_without_carry one.1 (number_of 16 z 0 2) (16 ^ 3) (number_of 16 s.processor.c 0 2 + 1) number (omega (arith, less)) in
    takes_step 1 s _ _ one.3
    (takes_step 0 _ _ _ (returned straight _ one.3.whole (has 1 (omega arith)) returns)
    (takes_none _ (λ t. HasReturned s t × IsIncremented s t) (
      record { address = refl; returns = refl },
      record { counted = fits.1; others = sum.outside; carry = refl; only = refl },
    )))
