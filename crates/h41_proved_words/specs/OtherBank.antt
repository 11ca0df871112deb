-- A subroutine in another bank of the same page. In bank 1 at 8000: ?NC XQ 8010, RTN; at 8010:
-- ENBANK2; at 8013: RTN. In bank 2 at 8011: C=C+1 S&X, ENBANK1.
use Rattle.std.specs.Prelude.{◌≡◌, ℕ, ◌+◌, ◌≤◌, true, false, List, [], ◌∷◌, length, is_some}
use Rattle.h41_arith.specs.DigitRule.{KeepsOutside}
use Rattle.h41_arith.specs.DigitRuleLaws.{number_of}
use Rattle.h41_laws_words.specs.WholeStates.{IsWhole}
use Rattle.h41_nut.specs.Addresses.{is_closed}
use Rattle.h41_nut.specs.Jumps.{newest_return}
use Rattle.h41_nut.specs.WordStep.{Nut}
use Rattle.h41_nut.specs.declared.base.Base.TheVariants.{Hexadecimal}
use Rattle.h41_pages.specs.PageMap.{PageMap, chosen_at, image_at}
use Rattle.h41_words.specs.declared.rows.Bank.TheVariants.{First, Second}
use Rattle.h41_reasoning.specs.Runs.{HasBankWords, HasReturnedCalling, HasWords, OnlyC, Takes}

-- The caller, the beginning and the end of the subroutine, in bank 1.
pub record HasFirstBank (pages : PageMap) : Type 0 where
  pub active : chosen_at pages 8 ≡ First
  pub plugged : is_some (image_at pages 8 First) ≡ true
  pub caller : HasWords pages 0x8000 (0x041 ∷ 0x200 ∷ 0x3E0 ∷ [])
  pub beginning : HasWords pages 0x8010 (0x180 ∷ [])
  pub ending : HasWords pages 0x8013 (0x3E0 ∷ [])

-- The part of the subroutine in bank 2.
abbrev pub second_bank_words : List ℕ
second_bank_words = 0x226 ∷ 0x100 ∷ []

-- The number in the field S&X of C is greater by 1. Nothing else has changed but the carry, which
-- is clear: bank 1 is active again.
pub record HasAddedThere (s t : Nut) : Type 0 where
  pub returned : HasReturnedCalling s t
  pub counted : number_of 16 t.processor.c 0 2 ≡ number_of 16 s.processor.c 0 2 + 1
  pub others : KeepsOutside s.processor.c 0 2 t.processor.c
  pub carry : t.processor.carry ≡ false
  pub only : OnlyC s t

-- From every state with a clear carry, in hexadecimal mode, with at most FFE in S&X, the words
-- return in six steps.
abbrev pub OtherBankReturns : Type 0
OtherBankReturns =
    (s : Nut) → IsWhole s → s.processor.pc ≡ 0x8000 → HasFirstBank s.pages
    → HasBankWords s.pages Second 0x8011 second_bank_words
    → is_closed (newest_return s.processor) ≡ false → length s.processor.returns ≡ 4
    → s.processor.carry ≡ false → s.processor.base ≡ Hexadecimal
    → number_of 16 s.processor.c 0 2 ≤ 0xFFE → Takes 6 s (HasAddedThere s)
