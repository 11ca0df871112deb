-- The states that a calculator can reach. From the initial state on all of them are whole, that is
-- well-formed, so that each word, each line and each key has an outcome there.
use Rattle.std.specs.Prelude.{◌≡◌, ℕ, ◌≤◌, Bool, List, length, None, Option}
use Rattle.std.specs.Result.{result_unwrap_or}
use Rattle.h41_keys.specs.declared.key.Key.{Key}
use Rattle.h41_pages.specs.PageMap.{unplug_refusal}
use Rattle.h41_xrom.specs.Calculator.{CalculatorState, Step, TakesPage, after_call, after_reset}
use Rattle.h41_xrom.specs.Calculator.{start, with_page, without_page}
use Rattle.h41_xrom.specs.KeyActions.{Presses}
use Rattle.h41_xrom.specs.Programs.{Loads, size_makes}
use Rattle.h41_xrom.specs.declared.refusal.CalculatorRefusal.{CalculatorRefusal}
use Rattle.h41_laws_calculator.specs.Keys.{KeyLeaves}
use Rattle.h41_laws_words.specs.HasOne.{HasOne}
use Rattle.h41_laws_calculator.specs.WholeInputs.{IsWholeInput}
use Rattle.h41_laws_calculator.specs.WholeMemory.{most_main}
use Rattle.h41_laws_words.specs.WholeStates.{IsWhole}

-- What a word may read is well-formed, memory is not larger than a calculator's, and the keyboard
-- remembers only what a keyboard can.
pub record IsWholeCalculator (s : CalculatorState) : Type 0 where
  pub nut : IsWhole s.nut
  pub most : length s.nut.ram.main ≤ most_main
  pub input : IsWholeInput s.input

-- A calculator is whole in its initial state, with any size of memory that it can have.
abbrev pub StartIsWhole : Type 0
StartIsWhole = (registers : ℕ) → registers ≤ most_main → IsWholeCalculator (start registers)

-- A step leaves it whole.
abbrev pub StepLeavesWhole : Type 0
StepLeavesWhole = (s t : CalculatorState) → IsWholeCalculator s → Step s t → IsWholeCalculator t

-- A key, which may be refused, leaves it whole.
abbrev pub PressLeavesWhole : Type 0
PressLeavesWhole =
    (key : Key) (s t : CalculatorState) (refusal : Option CalculatorRefusal) → IsWholeCalculator s
    → Presses key s t refusal → IsWholeCalculator t

-- A load leaves it whole.
abbrev pub LoadLeavesWhole : Type 0
LoadLeavesWhole =
    (bytes : List ℕ) (s t : CalculatorState) (refusal : Option CalculatorRefusal)
    → IsWholeCalculator s → Loads bytes s t refusal → IsWholeCalculator t

-- A new size leaves it whole.
abbrev pub SizeLeavesWhole : Type 0
SizeLeavesWhole =
    (count : ℕ) (s : CalculatorState) → IsWholeCalculator s
    → IsWholeCalculator (result_unwrap_or (size_makes s count) s)

-- A call leaves it whole.
abbrev pub CallLeavesWhole : Type 0
CallLeavesWhole =
    (address : ℕ) (s : CalculatorState) → IsWholeCalculator s
    → IsWholeCalculator (after_call address s)

-- A reset leaves it whole.
abbrev pub ResetLeavesWhole : Type 0
ResetLeavesWhole = (s : CalculatorState) → IsWholeCalculator s → IsWholeCalculator (after_reset s)

-- Plugging words leaves it whole.
abbrev pub PlugLeavesWhole : Type 0
PlugLeavesWhole =
    (page bank : ℕ) (writable : Bool) (words : List ℕ) (s : CalculatorState) → IsWholeCalculator s
    → TakesPage s page bank words → IsWholeCalculator (with_page page bank writable words s)

-- Unplugging a page leaves it whole.
abbrev pub UnplugLeavesWhole : Type 0
UnplugLeavesWhole =
    (page : ℕ) (s : CalculatorState) → IsWholeCalculator s
    → unplug_refusal s.nut.pages page ≡ None → IsWholeCalculator (without_page page s)

-- Each key has exactly one outcome there.
abbrev pub WholeKeyHasOneOutcome : Type 0
WholeKeyHasOneOutcome =
    (key : Key) (s : CalculatorState) → IsWholeCalculator s → HasOne (KeyLeaves key s)
