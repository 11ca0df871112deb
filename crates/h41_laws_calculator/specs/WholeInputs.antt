-- What a keyboard can remember, and what it makes the calculator do: the lines that it stores and
-- executes can be encoded in bytes.
use Rattle.std.specs.Prelude.{ℕ, ◌≤◌, ◌<◌, length, Option, Some, None, IfSome}
use Rattle.h41_codes.specs.ByteGrammar.{IsLine, IsText}
use Rattle.h41_codes.specs.Counts.{number_most, text_most}
use Rattle.h41_keys.specs.KeyPress.{presses}
use Rattle.h41_keys.specs.declared.action.Action.{Action}
use Rattle.h41_keys.specs.declared.action.Action.TheVariants as actions
use Rattle.h41_keys.specs.declared.input.Activity.{Activity}
use Rattle.h41_keys.specs.declared.input.Flags.{Flags}
use Rattle.h41_keys.specs.declared.input.Input.{Input}
use Rattle.h41_keys.specs.declared.input.Pressed.{Pressed}
use Rattle.h41_keys.specs.declared.input.TypedEntry.{TypedEntry}
use Rattle.h41_keys.specs.declared.input.TypedEntry.TheVariants as entries
use Rattle.h41_keys.specs.declared.key.Key.{Key}
use Rattle.h41_keys.specs.declared.prompt.Prompt.{Prompt}
use Rattle.h41_keys.specs.declared.prompt.Typed.{Typed}
use Rattle.h41_keys.specs.declared.prompt.Typed.TheVariants as typed
use Rattle.h41_program.specs.ProgramLaws.{IsInner}

-- A number that is being typed has at most 16 characters, and a text at most 15 bytes.
abbrev pub IsWholeEntry : TypedEntry → Type 0
IsWholeEntry (entries.Number text) = length text ≤ number_most
IsWholeEntry (entries.TextLine text) = IsText text_most text
IsWholeEntry entry = Unit {0}

-- The most characters of a typed name.
abbrev pub typed_name_most : ℕ
typed_name_most = 7

-- The characters typed for a prompt are a name of at most 7 bytes, or something else.
abbrev pub IsWholeTyped : Typed → Type 0
IsWholeTyped (typed.Name name) = IsText typed_name_most name
IsWholeTyped other = Unit {0}

-- There is no prompt, or what is typed for it is well-formed.
abbrev pub IsWholePrompt : Option Prompt → Type 0
IsWholePrompt None = Unit {0}
IsWholePrompt (Some prompt) = IsWholeTyped prompt.typed

-- What a keyboard can remember.
pub record IsWholeInput (input : Input) : Type 0 where
  pub entry : IsWholeEntry input.entry
  pub prompt : IsWholePrompt input.prompt

-- A line that is stored can be encoded in bytes, and is one that programs can contain; a line that
-- is executed can be encoded in bytes; a letter is a byte.
abbrev pub IsWholeAction : Action → Type 0
IsWholeAction (actions.Insert line) = IsInner line
IsWholeAction (actions.Replace line) = IsInner line
IsWholeAction (actions.CarryOut line) = IsLine line
IsWholeAction (actions.BeginText letter) = letter < 256
IsWholeAction (actions.AddLetter letter) = letter < 256
IsWholeAction other = Unit {0}

-- A key leads to such an action, and leaves such a keyboard.
abbrev pub IsWholePress : Pressed → Type 0
IsWholePress press = IsWholeAction press.action × IsWholeInput press.input

-- A key that such a keyboard accepts does so.
abbrev pub KeyLeavesWhole : Type 0
KeyLeavesWhole =
    (input : Input) (key : Key) (activity : Activity) (flags : Flags) → IsWholeInput input
    → IfSome (presses input key activity flags) IsWholePress
