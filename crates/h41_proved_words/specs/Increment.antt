-- C=C+1 S&X, RTN: adds 1 to the digits 2 to 0 of C, at any address.
use Rattle.std.specs.Prelude.{◌≡◌, ℕ, ◌+◌, ◌<◌, ◌≤◌, false, List, [], ◌∷◌}
use Rattle.h41_arith.specs.DigitRule.{KeepsOutside}
use Rattle.h41_arith.specs.DigitRuleLaws.{number_of}
use Rattle.h41_laws_words.specs.WholeStates.{IsWhole}
use Rattle.h41_nut.specs.Addresses.{address_count, is_closed}
use Rattle.h41_nut.specs.Arrivals.{next_address}
use Rattle.h41_nut.specs.Jumps.{newest_return}
use Rattle.h41_nut.specs.WordStep.{Nut}
use Rattle.h41_nut.specs.declared.base.Base.TheVariants.{Hexadecimal}
use Rattle.h41_reasoning.specs.Runs.{HasReturned, HasWords, OnlyC, Takes}

abbrev pub increment_words : List ℕ
increment_words = 0x226 ∷ 0x3E0 ∷ []

-- The number in the field S&X of C is greater by 1. Nothing else has changed but the carry, which
-- is clear.
pub record IsIncremented (s t : Nut) : Type 0 where
  pub counted : number_of 16 t.processor.c 0 2 ≡ number_of 16 s.processor.c 0 2 + 1
  pub others : KeepsOutside s.processor.c 0 2 t.processor.c
  pub carry : t.processor.carry ≡ false
  pub only : OnlyC s t

-- From every state in hexadecimal mode with less than FFF in S&X, the words return in two steps.
abbrev pub IncrementReturns : Type 0
IncrementReturns =
    (s : Nut) → IsWhole s → s.processor.pc < address_count
    → HasWords s.pages s.processor.pc increment_words
    → is_closed (next_address s.processor) ≡ false → is_closed (newest_return s.processor) ≡ false
    → s.processor.base ≡ Hexadecimal → number_of 16 s.processor.c 0 2 ≤ 0xFFE
    → Takes 2 s (λ t. HasReturned s t × IsIncremented s t)
