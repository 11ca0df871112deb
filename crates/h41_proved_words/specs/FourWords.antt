-- The four words of the first run: LDI 123, C=C+1 S&X, RTN.
use Rattle.std.specs.Prelude.{◌≡◌, ℕ, false, List, [], ◌∷◌}
use Rattle.h41_arith.specs.DigitRule.{KeepsOutside}
use Rattle.h41_arith.specs.DigitRuleLaws.{number_of}
use Rattle.h41_laws_words.specs.WholeStates.{IsWhole}
use Rattle.h41_nut.specs.Addresses.{is_closed}
use Rattle.h41_nut.specs.Jumps.{newest_return}
use Rattle.h41_nut.specs.WordStep.{Nut}
use Rattle.h41_reasoning.specs.Runs.{HasReturned, HasWords, OnlyC, Reaches}

abbrev pub four_words : List ℕ
four_words = 0x130 ∷ 0x123 ∷ 0x226 ∷ 0x3E0 ∷ []

-- C has 124 in its S&X field; its other digits are as before. Nothing else has changed but the
-- carry, which is clear.
pub record HasCounted (s t : Nut) : Type 0 where
  pub returned : HasReturned s t
  pub counted : number_of 16 t.processor.c 0 2 ≡ 0x124
  pub others : KeepsOutside s.processor.c 0 2 t.processor.c
  pub carry : t.processor.carry ≡ false
  pub only : OnlyC s t

-- From every state in which the words are next, they return within three steps.
abbrev pub FourWordsReturn : Type 0
FourWordsReturn =
    (s : Nut) → IsWhole s → s.processor.pc ≡ 0x8000 → HasWords s.pages 0x8000 four_words
    → is_closed (newest_return s.processor) ≡ false → Reaches 3 s (HasCounted s)
