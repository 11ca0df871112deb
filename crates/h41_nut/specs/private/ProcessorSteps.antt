-- What the methods of the processor promise to the functions that call them: the processor goes to
-- an address with a change, or is refused.
use Rattle.std.specs.Prelude.{◌≡◌, ◌==◌, ℕ, ℤ, Bool, false, List, Option, None, Result}
use Rattle.std.specs.Prelude.{IfOk, OnOk, OnErr}
use Rattle.std.specs.Option.{option_or}
use Rattle.std.specs.Result.{result_err}
use Rattle.h41_words.specs.declared.rows.Condition.{Condition}
use Rattle.h41_words.specs.declared.second_word.SecondWord.{SecondWord}
use Rattle.h41_pages.specs.PageMap.{PageMap}
use Rattle.h41_nut.specs.Addresses.{end_of_function}
use Rattle.h41_nut.specs.Arrivals.{next_address, arrival_refusal, at_address}
use Rattle.h41_nut.specs.declared.refusal.WordRefusal.{WordRefusal}
use Rattle.h41_nut.specs.Jumps.{jump_target, jump_change, short_jump_target, return_target}
use Rattle.h41_nut.specs.Jumps.{return_change}
use Rattle.h41_nut.specs.MemoryWords.{with_selected, refusal_to_fetch, refusal_to_write}
use Rattle.h41_nut.specs.MemoryWords.{with_fetched_word}
use Rattle.h41_nut.specs.Processor.{Processor}
use Rattle.h41_nut.specs.RegisterWords.{with_c}

-- From s, a processor goes to an address with a change and a carry, as t; or it is refused for a
-- first reason or because of the address, and remains s.
pub record Goes {T : Type 0} (first : Option WordRefusal) (address : ℕ) (carry : Bool)
    (changed s t : Processor) (result : Result T WordRefusal) : Type 0 where
  pub refusal : result_err result ≡ option_or first (arrival_refusal address)
  pub goes : OnOk result (t ≡ at_address address carry changed)
  pub stays : OnErr result (t ≡ s)

-- The processor goes to an address with a change, and the carry is clear.
abbrev pub GoesTo : {T : Type 0} → (Processor → ℕ) → (Processor → Processor) → Processor → Processor
    → Result T WordRefusal → Type 0
GoesTo address change s t result = Goes None (address s) false (change s) s t result

-- The result is whether a function ends at the address of a processor.
abbrev pub TellsEnd : Result Bool WordRefusal → Processor → Type 0
TellsEnd result t = IfOk result (λ ends. ends ≡ (t.pc == end_of_function))

-- The processor continues after its word with a change, and the carry is clear.
abbrev pub GoesOn : {T : Type 0} → (Processor → Processor) → Processor → Processor
    → Result T WordRefusal → Type 0
GoesOn change s t result = GoesTo next_address change s t result

-- The processor continues after its word with a change and the carry clear, unless it is refused
-- for a first reason.
abbrev pub GoesOnUnless : {T : Type 0} → Option WordRefusal → (Processor → Processor) → Processor
    → Processor → Result T WordRefusal → Type 0
GoesOnUnless first change s t result = Goes first (next_address s) false (change s) s t result

-- The processor continues after its word with the result of a test as the carry.
abbrev pub GoesOnTelling : {T : Type 0} → Bool → Processor → Processor → Result T WordRefusal
    → Type 0
GoesOnTelling test s t result = Goes None (next_address s) test s s t result

-- The effect of a jump by address.
abbrev pub JumpsLong : {T : Type 0} → ℕ → SecondWord → Processor → Processor → Result T WordRefusal
    → Type 0
JumpsLong low_byte second s t result =
    GoesTo (jump_target low_byte second) (jump_change second) s t result

-- The effect of a short jump.
abbrev pub JumpsShort : {T : Type 0} → Condition → ℤ → Processor → Processor → Result T WordRefusal
    → Type 0
JumpsShort condition displacement s t result =
    GoesTo (short_jump_target condition displacement) (λ s. s) s t result

-- The effect of a return with a condition.
abbrev pub ReturnsIf : {T : Type 0} → Condition → Processor → Processor → Result T WordRefusal
    → Type 0
ReturnsIf condition s t result =
    GoesTo (return_target condition) (return_change condition) s t result

-- An address is selected, and the register there is copied to C.
abbrev pub selecting_and_loading : ℕ → List ℕ → Processor → Processor
selecting_and_loading address register s = with_selected address (with_c register s)

-- The effect of FETCH S&X.
abbrev pub FetchesWord : {T : Type 0} → PageMap → Processor → Processor → Result T WordRefusal
    → Type 0
FetchesWord pages s t result =
    GoesOnUnless (refusal_to_fetch s) (with_fetched_word pages) s t result

-- The effect of WROM.
abbrev pub WritesWord : {T : Type 0} → PageMap → Processor → Processor → Result T WordRefusal
    → Type 0
WritesWord pages s t result = GoesOnUnless (refusal_to_write pages s) (λ s. s) s t result
