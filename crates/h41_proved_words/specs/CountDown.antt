-- ?C#0 S&X, ?NC RTN, C=C-1 S&X, JNC -03: counts the digits 2 to 0 of C down to zero.
use Rattle.std.specs.Prelude.{◌≡◌, ℕ, ◌+◌, ◌*◌, false, List, [], ◌∷◌}
use Rattle.h41_arith.specs.DigitRule.{KeepsOutside}
use Rattle.h41_arith.specs.DigitRuleLaws.{number_of}
use Rattle.h41_laws_words.specs.WholeStates.{IsWhole}
use Rattle.h41_nut.specs.Addresses.{is_closed}
use Rattle.h41_nut.specs.Jumps.{newest_return}
use Rattle.h41_nut.specs.WordStep.{Nut}
use Rattle.h41_nut.specs.declared.base.Base.TheVariants.{Hexadecimal}
use Rattle.h41_reasoning.specs.Runs.{HasReturned, HasWords, OnlyC, Takes}

abbrev pub count_down_words : List ℕ
count_down_words = 0x2E6 ∷ 0x3A0 ∷ 0x266 ∷ 0x3EB ∷ []

-- The field S&X of C is zero. Nothing else has changed but the carry, which is clear.
pub record IsCountedDown (s t : Nut) : Type 0 where
  pub returned : HasReturned s t
  pub counted : number_of 16 t.processor.c 0 2 ≡ 0
  pub others : KeepsOutside s.processor.c 0 2 t.processor.c
  pub carry : t.processor.carry ≡ false
  pub only : OnlyC s t

-- The loop ends for every C. It takes four steps for each count, and two more.
abbrev pub CountDownReturns : Type 0
CountDownReturns =
    (s : Nut) → IsWhole s → s.processor.pc ≡ 0x8000 → HasWords s.pages 0x8000 count_down_words
    → is_closed (newest_return s.processor) ≡ false → s.processor.base ≡ Hexadecimal
    → Takes (4 * number_of 16 s.processor.c 0 2 + 2) s (IsCountedDown s)
