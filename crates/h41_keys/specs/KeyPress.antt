-- The effect of each key in each state of the keyboard: the action, and the new state of the
-- keyboard; none if the key is refused, and then nothing changes. It is a function, so that a state
-- and a key have exactly one outcome.
use Rattle.std.specs.Prelude.{◌≡◌, ℕ, nat_lt, Bool, true, false, not, ◌&&◌, ◌==◌, List, [], ◌∷◌}
use Rattle.std.specs.Prelude.{◌++◌, length, Option, Some, None, if◌then◌else◌}
use Rattle.h41_codes.specs.Counts.{text_most}
use Rattle.h41_codes.specs.declared.characters.Character.{Character}
use Rattle.h41_codes.specs.declared.functions.Function.{Function}
use Rattle.h41_codes.specs.declared.functions.Function.TheVariants as functions
use Rattle.h41_codes.specs.declared.line.Line.{Line}
use Rattle.h41_codes.specs.declared.line.Line.TheVariants as lines
use Rattle.h41_keys.specs.Keyboard.{row_of, meaning_of}
use Rattle.h41_keys.specs.NumberTyping.{with_digit, with_point, with_exponent, with_sign_turned}
use Rattle.h41_keys.specs.NumberTyping.{without_last, kept_within}
use Rattle.h41_keys.specs.PromptKeys.{prompt_step}
use Rattle.h41_keys.specs.declared.action.Action.{Action}
use Rattle.h41_keys.specs.declared.action.Action.TheVariants as actions
use Rattle.h41_keys.specs.declared.input.TypedEntry.{TypedEntry}
use Rattle.h41_keys.specs.declared.input.TypedEntry.TheVariants as entries
use Rattle.h41_keys.specs.declared.input.Flags.{Flags}
use Rattle.h41_keys.specs.declared.input.Input.{Input}
use Rattle.h41_keys.specs.declared.input.Activity.{Activity}
use Rattle.h41_keys.specs.declared.input.Activity.TheVariants as modes
use Rattle.h41_keys.specs.declared.input.Place.{Place}
use Rattle.h41_keys.specs.declared.input.Place.TheVariants as places
use Rattle.h41_keys.specs.declared.input.Pressed.{Pressed}
use Rattle.h41_keys.specs.declared.key.Key.{Key}
use Rattle.h41_keys.specs.declared.key.Key.TheVariants as keys
use Rattle.h41_keys.specs.declared.meaning.Meaning.{Meaning}
use Rattle.h41_keys.specs.declared.meaning.Meaning.TheVariants as meanings
use Rattle.h41_keys.specs.declared.prompt.Prompt.{Prompt}
use Rattle.h41_keys.specs.declared.prompt.PromptFunction.{PromptFunction}
use Rattle.h41_keys.specs.declared.prompt.Typed.{Typed}
use Rattle.h41_keys.specs.declared.prompt.Typed.TheVariants as typed
use Rattle.h41_keys.specs.declared.prompt_step.PromptStep.{PromptStep}
use Rattle.h41_keys.specs.declared.prompt_step.PromptStep.TheVariants as steps

-- The result of an accepted key.
abbrev pub does : Action → Input → Pressed
does action input = record { action = action; input = input }

-- The state of the keyboard with SHIFT off, since it applies to one key only, and with this being
-- typed.
abbrev pub with_entry : Input → TypedEntry → Input
with_entry input entry = record input { shift = false; entry = entry }

-- The state of the keyboard with SHIFT off and nothing being typed.
abbrev pub without_entry : Input → Input
without_entry input = with_entry input entries.Nothing

-- What is still being typed after a line: a number has ended, a text continues.
abbrev pub without_number : TypedEntry → TypedEntry
without_number (entries.Number number) = entries.Nothing
without_number other = other

-- A line was typed. In program mode it is stored, and ends a text; otherwise it is executed, and a
-- text continues.
abbrev pub typed_line : Input → (program_mode : Bool) → Line → Pressed
typed_line input true line = does (actions.Insert line) (without_entry input)
typed_line input false line =
    does (actions.CarryOut line) (with_entry input (without_number input.entry))

-- The result of typing a line.
abbrev pub line_typed : Input → Line → Pressed
line_typed input line = typed_line input input.program_mode line

-- The result of typing a function without a parameter.
abbrev pub function_typed : Input → Function → Pressed
function_typed input function = line_typed input (lines.Plain function)

-- A prompt when it opens.
abbrev pub opened_prompt : PromptFunction → Prompt
opened_prompt function = record { function = function; indirect = false; typed = typed.Nothing }

-- Numbers: the characters of the number that is being typed, or none if no number is being typed.
abbrev pub number_in : TypedEntry → List Character
number_in (entries.Number text) = text
number_in other = []

-- A number begins: in program mode as a line, otherwise in X.
abbrev pub number_begun : Input → (program_mode : Bool) → List Character → Pressed
number_begun input true text =
    does (actions.Insert (lines.Number text)) (with_entry input (entries.Number text))
number_begun input false text = does (actions.BeginNumber text)
    (with_entry input (entries.Number text))

-- A number changes: in program mode its line is replaced, otherwise X.
abbrev pub number_changed : Input → (program_mode : Bool) → List Character → Pressed
number_changed input true text =
    does (actions.Replace (lines.Number text)) (with_entry input (entries.Number text))
number_changed input false text =
    does (actions.ChangeNumber text) (with_entry input (entries.Number text))

-- The last character of a number was deleted, by BACK or by CHS on a sign alone.
abbrev pub number_ended : Input → (program_mode : Bool) → Pressed
number_ended input true = does actions.Delete (without_entry input)
number_ended input false = does actions.EndNumber (without_entry input)

-- The number's text becomes another one. A key that changes nothing is accepted, too.
abbrev pub number_becomes : Input → (before after : List Character) → Pressed
number_becomes input before after =
    if length after == 0 then number_ended input input.program_mode
    else if length before == 0 then number_begun input input.program_mode after
    else if length after == length before then does actions.Nothing (with_entry input input.entry)
    else number_changed input input.program_mode after

-- The number's text becomes another one if that has at most 16 characters.
abbrev pub press_of_number : Input → (before after : List Character) → Pressed
press_of_number input before after = number_becomes input before (kept_within before after)

-- The result of a key of numbers, from the change that it makes to the text.
abbrev pub number_typed : Input → (List Character → List Character) → Pressed
number_typed input change =
    press_of_number input (number_in input.entry) (change (number_in input.entry))

-- CHS is a function if no number is being typed.
abbrev pub sign_pressed : Input → TypedEntry → Pressed
sign_pressed input (entries.Number text) = number_typed input with_sign_turned
sign_pressed input other = function_typed input functions.ChangeSign

-- BACK deletes the shown line in program mode; otherwise it is the function CLX.
abbrev pub press_of_clear : Input → (program_mode : Bool) → Pressed
press_of_clear input true = does actions.Delete (without_entry input)
press_of_clear input false = function_typed input functions.ClearX

-- BACK deletes the last character of a number, if one is being typed.
abbrev pub back_pressed : Input → TypedEntry → Pressed
back_pressed input (entries.Number text) = number_becomes input text (without_last text)
back_pressed input other = press_of_clear input input.program_mode

-- Texts for ALPHA: in program mode a text is a line, which is replaced with each letter, up to 15
-- bytes.
abbrev pub text_line : Input → (List ℕ → Action) → List ℕ → Pressed
text_line input act text = does (act text) (with_entry input (entries.TextLine text))

-- A text line is inserted.
abbrev pub inserts : List ℕ → Action
inserts text = actions.Insert (lines.Text text)

-- A text line replaces the shown one.
abbrev pub replaces : List ℕ → Action
replaces text = actions.Replace (lines.Text text)

-- The result of changing a text line.
abbrev pub changed_line : Input → List ℕ → Pressed
changed_line input text = text_line input replaces text

-- The result of a letter. The first letter clears ALPHA, unless it is appended; a line that appends
-- begins with the append sign 7F.
abbrev pub letter_typed : Input → (program_mode : Bool) → TypedEntry → ℕ → Pressed
letter_typed input false entries.Append letter =
    does (actions.AddLetter letter) (with_entry input entries.Letters)
letter_typed input false entries.Letters letter =
    does (actions.AddLetter letter) (with_entry input entries.Letters)
letter_typed input false other letter =
    does (actions.BeginText letter) (with_entry input entries.Letters)
letter_typed input true entries.Append letter = text_line input inserts (0x7F ∷ letter ∷ [])
letter_typed input true (entries.TextLine text) letter =
    if nat_lt (length text) text_most then changed_line input (text ++ letter ∷ [])
    else does actions.Nothing (with_entry input (entries.TextLine text))
letter_typed input true other letter = text_line input inserts (letter ∷ [])

-- Whether a text line has a letter other than the append sign.
abbrev pub has_letter : List ℕ → Bool
has_letter [] = false
has_letter (first ∷ []) = not (first == 0x7F)
has_letter others = true

-- The result of deleting the last letter of a text line: if no letter is left, the line is deleted.
abbrev pub text_shortened : Input → List ℕ → Pressed
text_shortened input text =
    if has_letter text then changed_line input text else does actions.Delete (without_entry input)

-- The result of BACK in ALPHA mode: the last letter is deleted. If no letter was typed, ALPHA is
-- cleared, or in program mode the shown line is deleted.
abbrev pub letter_taken : Input → (program_mode : Bool) → TypedEntry → Pressed
letter_taken input false entries.Letters =
    does actions.TakeLetter (with_entry input entries.Letters)
letter_taken input false other = does actions.ClearAlpha (without_entry input)
letter_taken input true (entries.TextLine text) = text_shortened input (without_last text)
letter_taken input true other = does actions.Delete (without_entry input)

-- SHIFT XEQ: the next letter is appended. In program mode this ends the text of a line; otherwise
-- it changes nothing in a text.
abbrev pub append_pressed : Input → (program_mode : Bool) → TypedEntry → Pressed
append_pressed input false entries.Letters = does actions.Nothing (with_entry input entries.Letters)
append_pressed input program_mode other = does actions.Nothing (with_entry input entries.Append)

-- Keys while no prompt is open, by their meanings. R/S runs the program, or in program mode is the
-- line STOP.
abbrev pub run_pressed : Input → (program_mode : Bool) → Pressed
run_pressed input true = function_typed input functions.Stop
run_pressed input false = does actions.Run (without_entry input)

-- SHIFT applies to the next key; pressing it a second time cancels it.
abbrev pub with_shift_turned : Input → Input
with_shift_turned input = record input { shift = not input.shift }

-- PRGM turns program mode on or off.
abbrev pub program_mode_turned : Input → Input
program_mode_turned input = record (without_entry input) { program_mode = not input.program_mode }

-- A prompt opens, which ends a number.
abbrev pub with_prompt : Input → PromptFunction → Input
with_prompt input function =
    record (with_entry input (without_number input.entry))
    { prompt = Some (opened_prompt function) }

-- The result of a key with this meaning.
abbrev pub acts : Input → Meaning → Option Pressed
acts input meanings.Nothing = None
acts input meanings.Shift = Some (does actions.Nothing (with_shift_turned input))
acts input meanings.Alpha = Some (does actions.ToggleAlpha (without_entry input))
acts input meanings.Program = Some (does actions.Nothing (program_mode_turned input))
acts input meanings.Step = Some (does actions.Step (without_entry input))
acts input meanings.StepBack = Some (does actions.StepBack (without_entry input))
acts input meanings.RunStop = Some (run_pressed input input.program_mode)
acts input meanings.Back = Some (back_pressed input input.entry)
acts input meanings.LetterBack = Some (letter_taken input input.program_mode input.entry)
acts input (meanings.Digit digit) = Some (number_typed input (λ text. with_digit text digit))
acts input meanings.Point = Some (number_typed input with_point)
acts input meanings.Exponent = Some (number_typed input with_exponent)
acts input meanings.Sign = Some (sign_pressed input input.entry)
acts input (meanings.Function function) = Some (function_typed input function)
acts input (meanings.Ask function) = Some (does actions.Nothing (with_prompt input function))
acts input (meanings.Letter letter) =
    Some (letter_typed input input.program_mode input.entry letter)
acts input meanings.Append = Some (append_pressed input input.program_mode input.entry)

-- Keys while a prompt is open: the state of the keyboard after the prompt ended.
abbrev pub prompt_ended : Input → Input
prompt_ended input = record input { shift = false; prompt = None }

-- The result of a step of a prompt.
abbrev pub press_of_step : Input → Option PromptStep → Option Pressed
press_of_step input (Some (steps.Becomes prompt)) =
    Some (does actions.Nothing (record input { shift = false; prompt = Some prompt }))
press_of_step input (Some steps.Cancels) = Some (does actions.Nothing (prompt_ended input))
press_of_step input (Some (steps.Types line)) = Some (line_typed (prompt_ended input) line)
press_of_step input (Some steps.GoesToEnd) =
    Some (does actions.GoToEnd (without_entry (prompt_ended input)))
press_of_step input None = None

-- In a name, SHIFT applies to the next key, as elsewhere; otherwise it is one of the keys of the
-- prompt.
abbrev pub shifts_name : Typed → Meaning → Bool
shifts_name (typed.Name name) meanings.Shift = true
shifts_name other meaning = false

-- The result of a key while a prompt is open.
abbrev pub in_prompt : Input → Prompt → Key → Option Pressed
in_prompt input prompt key =
    if shifts_name prompt.typed (row_of key).plain then acts input meanings.Shift
    else press_of_step input (prompt_step prompt prompt.typed input.shift key)

-- All keys: the result of a key, depending on whether a prompt is open.
abbrev pub by_prompt : Input → Option Prompt → (letters : Bool) → Key → Option Pressed
by_prompt input (Some prompt) letters key = in_prompt input prompt key
by_prompt input None letters key = acts input (meaning_of key letters input.shift)

-- Whether a key is BACK.
abbrev pub is_back : Key → Bool
is_back keys.Back = true
is_back other = false

-- The result of a key if nothing runs. If a message is shown, BACK without SHIFT only removes it.
abbrev pub press_in_idle : Input → Key → Flags → Option Pressed
press_in_idle input key flags =
    if flags.message && not input.shift && is_back key then Some (does actions.Nothing input)
    else by_prompt input input.prompt flags.alpha key

-- The result of a key while a program runs: R/S stops it, other keys only make their codes
-- readable.
abbrev pub while_running : Input → Meaning → Option Pressed
while_running input meanings.Nothing = None
while_running input meanings.RunStop = Some (does actions.Stop input)
while_running input other = Some (does actions.Nothing input)

-- The result of a key while a function in microcode runs: it only makes its code readable.
abbrev pub while_in_microcode : Input → Meaning → Option Pressed
while_in_microcode input meanings.Nothing = None
while_in_microcode input other = Some (does actions.Nothing input)

-- Lines of a page: in program mode, while one is shown, a key that would insert, replace or delete
-- a line is refused. BACK is supported if it would change nothing in memory, at line 00 and at
-- .END., and GTO . . if it inserts no END.
abbrev pub is_held : (deletes_nothing puts_end : Bool) → Action → Bool
is_held deletes_nothing puts_end (actions.Insert line) = false
is_held deletes_nothing puts_end (actions.Replace line) = false
is_held deletes_nothing puts_end actions.Delete = deletes_nothing
is_held deletes_nothing puts_end actions.GoToEnd = not puts_end
is_held deletes_nothing puts_end other = true

-- The result of a key in program mode, while a line of a page is shown.
abbrev pub held_in_page : (deletes_nothing puts_end : Bool) → Option Pressed → Option Pressed
held_in_page deletes_nothing puts_end (Some pressed) =
    if is_held deletes_nothing puts_end pressed.action then Some pressed else None
held_in_page deletes_nothing puts_end None = None

-- The result of a key, depending on the place of the shown line. Outside program mode, a page is
-- like memory.
abbrev pub held_at : Place → (program_mode : Bool) → Option Pressed → Option Pressed
held_at places.Memory program_mode pressed = pressed
held_at (places.Page deletes_nothing puts_end) false pressed = pressed
held_at (places.Page deletes_nothing puts_end) true pressed =
    held_in_page deletes_nothing puts_end pressed

-- The result of a key.
abbrev pub presses : Input → Key → Activity → Flags → Option Pressed
presses input key modes.Idle flags =
    held_at flags.place input.program_mode (press_in_idle input key flags)
presses input key modes.Run flags = while_running input (row_of key).plain
presses input key modes.Micro flags = while_in_microcode input (row_of key).plain

-- The key is accepted with this action, and this is the new state of the keyboard.
abbrev pub Accepts : Input → Key → Activity → Flags → Action → Input → Type 0
Accepts before key mode flags action after =
    presses before key mode flags ≡ Some (does action after)

-- The state at the start: SHIFT and program mode are off, and nothing is typed.
abbrev pub start : Input
start = record { shift = false; program_mode = false; entry = entries.Nothing; prompt = None }
