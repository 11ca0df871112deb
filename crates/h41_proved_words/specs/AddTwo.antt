-- A function that calls another one, in the next page, twice. At 8000: ?NC XQ 9000, ?NC XQ 9000,
-- RTN; at 9000: C=C+1 S&X, RTN.
use Rattle.std.specs.Prelude.{◌≡◌, ℕ, ◌+◌, ◌≤◌, false, List, [], ◌∷◌, length}
use Rattle.h41_arith.specs.DigitRule.{KeepsOutside}
use Rattle.h41_arith.specs.DigitRuleLaws.{number_of}
use Rattle.h41_laws_words.specs.WholeStates.{IsWhole}
use Rattle.h41_nut.specs.Addresses.{is_closed}
use Rattle.h41_nut.specs.Jumps.{newest_return}
use Rattle.h41_nut.specs.WordStep.{Nut}
use Rattle.h41_nut.specs.declared.base.Base.TheVariants.{Hexadecimal}
use Rattle.h41_reasoning.specs.Runs.{HasReturnedCalling, HasWords, OnlyC, Takes}
use Rattle.h41_proved_words.specs.Increment.{increment_words}

abbrev pub add_two_words : List ℕ
add_two_words = 0x001 ∷ 0x240 ∷ 0x001 ∷ 0x240 ∷ 0x3E0 ∷ []

-- The number in the field S&X of C is greater by 2. Nothing else has changed but the carry, which
-- is clear.
pub record HasAddedTwo (s t : Nut) : Type 0 where
  pub returned : HasReturnedCalling s t
  pub counted : number_of 16 t.processor.c 0 2 ≡ number_of 16 s.processor.c 0 2 + 2
  pub others : KeepsOutside s.processor.c 0 2 t.processor.c
  pub carry : t.processor.carry ≡ false
  pub only : OnlyC s t

-- From every state with a clear carry, in hexadecimal mode, with at most FFD in S&X, the
-- words return in seven steps.
abbrev pub AddTwoReturns : Type 0
AddTwoReturns =
    (s : Nut) → IsWhole s → s.processor.pc ≡ 0x8000 → HasWords s.pages 0x8000 add_two_words
    → HasWords s.pages 0x9000 increment_words → is_closed (newest_return s.processor) ≡ false
    → length s.processor.returns ≡ 4 → s.processor.carry ≡ false
    → s.processor.base ≡ Hexadecimal → number_of 16 s.processor.c 0 2 ≤ 0xFFD
    → Takes 7 s (HasAddedTwo s)
