-- Jumps and returns, taken and not taken.
use Rattle.std.proofs.Common.{◌≡◌, ℕ, ◌+◌, ◌*◌, ◌<◌, ℤ, Bool, true, false, ◌&&◌, if◌then◌else◌, Ok, None, refl, ap, subst, ◌∙◌}
use Rattle.std.specs.Bool.{then_some}
use Rattle.std.specs.Option.{option_or}
use Rattle.std.specs.Result.{result_err}
use Rattle.h41_laws_words.specs.WholeStates.{IsWhole}
use Rattle.h41_nut.specs.Addresses.{displaced_address, is_closed}
use Rattle.h41_nut.specs.Arrivals.{address_after_both, arrival_refusal, at_address, next_address}
use Rattle.h41_nut.specs.Jumps.{is_execute, is_taken, jump_change, jump_target, newest_return}
use Rattle.h41_nut.specs.Jumps.{short_jump_target, with_return_popped, with_return_pushed}
use Rattle.h41_nut.specs.PageWords.{word_at, word_or_zero}
use Rattle.h41_nut.specs.Processor.{Processor}
use Rattle.h41_nut.specs.WordStep.{Nut}
use Rattle.h41_nut.specs.declared.refusal.WordRefusal.TheVariants.{SystemRom}
use Rattle.h41_words.specs.SecondWord.{second_of}
use Rattle.h41_words.specs.WordTable.{IsRow}
use Rattle.h41_words.specs.declared.rows.Condition.{Condition}
use Rattle.h41_words.specs.declared.rows.Row.TheVariants.{LongJump, Return, ReturnIf, ShortJump}
use Rattle.h41_reasoning.specs.WordRuns.{IsNext, StepsTo, WordIsExecuted}

-- A state at an address, with another processor and the carry clear.
abbrev pub gone_to : ℕ → Processor → Nut → Nut
gone_to address p s = record s { processor = at_address address false p }

-- An address to which a step may go.
arrives : (address : ℕ) → is_closed address ≡ false → arrival_refusal address ≡ None
arrives address is_open = ap (λ closed. then_some closed (SystemRom address)) is_open

module _ (straight : WordIsExecuted) (s : Nut) (whole : IsWhole s) where
  -- JNC and JC, by the carry.
  module _ (condition : Condition) (displacement : ℤ) (is : IsRow (ShortJump condition displacement))
      (next : IsNext (ShortJump condition displacement) s) where
    short_jump : (address : ℕ) → short_jump_target condition displacement s.processor ≡ address → is_closed address ≡ false
        → StepsTo s (gone_to address s.processor s)
    short_jump address target is_open =
        subst (λ other. StepsTo s (gone_to other s.processor s)) target
        (straight (ShortJump condition displacement) is refl s whole next (ap arrival_refusal target ∙ arrives address is_open))

    pub short_jump_taken : is_taken condition s.processor.carry ≡ true → is_closed (displaced_address s.processor.pc displacement) ≡ false
        → StepsTo s (gone_to (displaced_address s.processor.pc displacement) s.processor s)
    short_jump_taken taken =
        short_jump (displaced_address s.processor.pc displacement)
        (ap (λ yes. if yes then displaced_address s.processor.pc displacement else next_address s.processor) taken)

    pub short_jump_passed : is_taken condition s.processor.carry ≡ false → is_closed (next_address s.processor) ≡ false
        → StepsTo s (gone_to (next_address s.processor) s.processor s)
    short_jump_passed passed =
        short_jump (next_address s.processor)
        (ap (λ yes. if yes then displaced_address s.processor.pc displacement else next_address s.processor) passed)

  -- ?NC XQ, ?C XQ, ?NC GO and ?C GO, by the second word and the carry.
  module _ (low_byte word : ℕ) (is : low_byte < 256) (next : IsNext (LongJump low_byte) s)
      (second : word_at s.pages (next_address s.processor) ≡ Ok word) where
    abbrev target : ℕ
    target = (second_of word).high_byte * 256 + low_byte

    abbrev by : Bool → Processor
    by taken =
        if taken && is_execute (second_of word).kind then with_return_pushed (address_after_both s.processor) s.processor else s.processor

    abbrev to : Bool → ℕ
    to taken = if taken then target else address_after_both s.processor

    long_jump : is_closed (to (is_taken (second_of word).condition s.processor.carry)) ≡ false
        → StepsTo s
        (gone_to (to (is_taken (second_of word).condition s.processor.carry))
        (by (is_taken (second_of word).condition s.processor.carry)) s)
    long_jump is_open =
        subst
        (λ fetched. StepsTo s (gone_to (jump_target low_byte (second_of (word_or_zero fetched)) s.processor)
        (jump_change (second_of (word_or_zero fetched)) s.processor) s))
        second
        (straight (LongJump low_byte) is refl s whole next
        (ap (λ fetched. option_or (result_err fetched)
        (arrival_refusal (jump_target low_byte (second_of (word_or_zero fetched)) s.processor))) second
        ∙ arrives (to (is_taken (second_of word).condition s.processor.carry)) is_open))

    pub long_jump_taken : is_taken (second_of word).condition s.processor.carry ≡ true → is_closed target ≡ false
        → StepsTo s (gone_to target (by true) s)
    long_jump_taken taken is_open =
        subst (λ yes. StepsTo s (gone_to (to yes) (by yes) s)) taken (long_jump (ap (λ yes. is_closed (to yes)) taken ∙ is_open))

    pub long_jump_passed : is_taken (second_of word).condition s.processor.carry ≡ false
        → is_closed (address_after_both s.processor) ≡ false
        → StepsTo s (gone_to (address_after_both s.processor) s.processor s)
    long_jump_passed passed is_open =
        subst (λ yes. StepsTo s (gone_to (to yes) (by yes) s)) passed (long_jump (ap (λ yes. is_closed (to yes)) passed ∙ is_open))

  -- RTN, ?C RTN and ?NC RTN.
  pub returned : IsNext Return s → is_closed (newest_return s.processor) ≡ false
      → StepsTo s (gone_to (newest_return s.processor) (with_return_popped s.processor) s)
  returned next is_open = straight Return tt refl s whole next (arrives (newest_return s.processor) is_open)

  module _ (condition : Condition) (next : IsNext (ReturnIf condition) s) where
    abbrev back_to : Bool → ℕ
    back_to taken = if taken then newest_return s.processor else next_address s.processor

    abbrev back_by : Bool → Processor
    back_by taken = if taken then with_return_popped s.processor else s.processor

    return_if : is_closed (back_to (is_taken condition s.processor.carry)) ≡ false
        → StepsTo s (gone_to (back_to (is_taken condition s.processor.carry)) (back_by (is_taken condition s.processor.carry)) s)
    return_if is_open =
        straight (ReturnIf condition) tt refl s whole next (arrives (back_to (is_taken condition s.processor.carry)) is_open)

    pub return_taken : is_taken condition s.processor.carry ≡ true → is_closed (newest_return s.processor) ≡ false
        → StepsTo s (gone_to (newest_return s.processor) (with_return_popped s.processor) s)
    return_taken taken is_open =
        subst (λ yes. StepsTo s (gone_to (back_to yes) (back_by yes) s)) taken
        (return_if (ap (λ yes. is_closed (back_to yes)) taken ∙ is_open))

    pub return_passed : is_taken condition s.processor.carry ≡ false → is_closed (next_address s.processor) ≡ false
        → StepsTo s (gone_to (next_address s.processor) s.processor s)
    return_passed passed is_open =
        subst (λ yes. StepsTo s (gone_to (back_to yes) (back_by yes) s)) passed
        (return_if (ap (λ yes. is_closed (back_to yes)) passed ∙ is_open))
