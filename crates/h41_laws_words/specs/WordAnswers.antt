-- A word has a result, or is refused.
use Rattle.std.specs.Prelude.{◌≡◌, None, Result}
use Rattle.h41_digits.specs.Register.{IsRegister}
use Rattle.h41_nut.specs.Processor.{Processor}
use Rattle.h41_nut.specs.WordStep.{Micro, Nut, RefusesOr, refused}
use Rattle.h41_nut.specs.declared.refusal.WordRefusal.{WordRefusal}
use Rattle.h41_laws_words.specs.HasOne.{HasOne}

-- A, B and C are registers of 14 digits, as in each processor that can exist.
pub record HasRegisters (s : Processor) : Type 0 where
  pub a : IsRegister 14 s.a
  pub b : IsRegister 14 s.b
  pub c : IsRegister 14 s.c

-- A step that is not refused makes exactly one change.
abbrev pub AcceptedWordHasOneChange : Type 0
AcceptedWordHasOneChange =
    (s : Nut) → HasRegisters s.processor → refused s ≡ None → HasOne (Micro s)

-- A step has exactly one answer, and leaves one state: that of its change, or the old one if it is
-- refused.
abbrev pub WordHasOneAnswer : Type 0
WordHasOneAnswer =
    (s : Nut) → HasRegisters s.processor
    → HasOne {A = Result (Unit {0}) WordRefusal × Nut}
    (λ left. RefusesOr (refused s) Micro left.0 s left.1)
