-- Instructions of two words.
use Rattle.std.proofs.Common.{◌≡◌, ℕ, false, Ok, refl, ap, subst, ◌∙◌}
use Rattle.std.specs.Bool.{then_some}
use Rattle.std.specs.Option.{option_or}
use Rattle.std.specs.Result.{result_err}
use Rattle.h41_laws_words.specs.WholeStates.{IsWhole}
use Rattle.h41_nut.specs.Addresses.{is_closed}
use Rattle.h41_nut.specs.Arrivals.{address_after_both, at_address, next_address}
use Rattle.h41_nut.specs.PageWords.{word_at, word_or_zero}
use Rattle.h41_nut.specs.RegisterWords.{with_word_in_c}
use Rattle.h41_nut.specs.WordStep.{Nut}
use Rattle.h41_nut.specs.declared.refusal.WordRefusal.TheVariants.{SystemRom}
use Rattle.h41_words.specs.declared.rows.Row.TheVariants.{LoadImmediate}
use Rattle.h41_reasoning.specs.WordRuns.{IsNext, StepsTo, WordIsExecuted}

-- LDI leaves its second word in the digits 2 to 0 of C.
pub load_immediate : WordIsExecuted → (s : Nut) (word : ℕ) → IsWhole s → IsNext LoadImmediate s
    → word_at s.pages (next_address s.processor) ≡ Ok word → is_closed (address_after_both s.processor) ≡ false
    → StepsTo s
    (record s { processor = at_address (address_after_both s.processor) false (with_word_in_c word s.processor) })
load_immediate straight s word whole next second inside =
    subst
    (λ fetched. StepsTo s
    (record s { processor = at_address (address_after_both s.processor) false (with_word_in_c (word_or_zero fetched) s.processor) }))
    second
    (straight LoadImmediate tt refl s whole next
    (ap (λ fetched. option_or (result_err fetched) (then_some (is_closed (address_after_both s.processor))
    (SystemRom (address_after_both s.processor)))) second
    ∙ ap (λ closed. then_some closed (SystemRom (address_after_both s.processor))) inside))
