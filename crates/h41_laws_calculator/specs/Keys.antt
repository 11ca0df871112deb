-- A key has a result.
use Rattle.std.specs.Prelude.{Option, Some, None}
use Rattle.h41_keys.specs.declared.action.Action.{Action}
use Rattle.h41_keys.specs.declared.action.Action.TheVariants.{Insert, Replace}
use Rattle.h41_keys.specs.declared.input.Flags.{Flags}
use Rattle.h41_keys.specs.declared.input.Pressed.{Pressed}
use Rattle.h41_keys.specs.declared.key.Key.{Key}
use Rattle.h41_program.specs.ProgramLaws.{IsInner}
use Rattle.h41_xrom.specs.Calculator.{CalculatorState}
use Rattle.h41_xrom.specs.KeyActions.{HasFlags, Presses, press_of}
use Rattle.h41_xrom.specs.declared.refusal.CalculatorRefusal.{CalculatorRefusal}
use Rattle.h41_laws_words.specs.HasOne.{HasOne}

-- The line that an action stores, if it stores one, can be encoded in bytes, and is one that
-- programs can contain.
abbrev pub StoresInner : Action → Type 0
StoresInner (Insert line) = IsInner line
StoresInner (Replace line) = IsInner line
StoresInner other = Unit {0}

-- The action of an accepted key stores only such lines.
abbrev pub PressStoresInner : Option Pressed → Type 0
PressStoresInner None = Unit {0}
PressStoresInner (Some press) = StoresInner press.action

-- A state and a refusal are those of a key.
abbrev pub KeyLeaves : Key → CalculatorState → CalculatorState × Option CalculatorRefusal → Type 0
KeyLeaves key s left = Presses key s left.0 left.1

-- Each key has exactly one outcome from each state: a change, or a refusal.
abbrev pub KeyHasOneOutcome : Type 0
KeyHasOneOutcome =
    (key : Key) (s : CalculatorState)
    → ((flags : Flags) → HasFlags s flags → PressStoresInner (press_of s key flags))
    → HasOne (KeyLeaves key s)
