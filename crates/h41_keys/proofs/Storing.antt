-- The lines that keys store are neither a null nor .END.
use Rattle.std.proofs.Common.{refl, subst, ℕ, Bool, true, false, List, [], ◌∷◌, length, Option, Some, None}
use Rattle.std.specs.Prelude.{if◌then◌else◌, IfSome, IsTrue, ⊤, not, ◌&&◌, ◌==◌, nat_lt}
use Rattle.h41_codes.specs.Canon.{shortest_function, shortest_branch}
use Rattle.h41_codes.specs.Counts.{short_label_count, short_register_count, text_most}
use Rattle.h41_codes.specs.declared.characters.Character.{Character}
use Rattle.h41_codes.specs.declared.functions.Branch.{Branch}
use Rattle.h41_codes.specs.declared.functions.Branch.TheVariants.{GoTo, Execute}
use Rattle.h41_codes.specs.declared.functions.Function.{Function}
use Rattle.h41_codes.specs.declared.functions.ParameterFunction.{ParameterFunction}
use Rattle.h41_codes.specs.declared.functions.ParameterFunction.TheVariants.{Recall, Store, Label}
use Rattle.h41_codes.specs.declared.line.Line.{Line}
use Rattle.h41_codes.specs.declared.line.Operand.{Operand}
use Rattle.h41_codes.specs.declared.line.Operand.TheVariants.{Direct}
use Rattle.h41_keys.specs.Keyboard.{row_of, meaning_of}
use Rattle.h41_keys.specs.KeyPress as press
use Rattle.h41_keys.specs.NumberTyping.{with_digit, with_point, with_exponent, with_sign_turned, without_last, kept_within, value_of}
use Rattle.h41_keys.specs.PromptKeys as keys
use Rattle.h41_keys.specs.Prompts.{prompt_row, digits_wanted, takes_stack, line_with, line_naming, name_line}
use Rattle.h41_keys.specs.Prompts.{is_local_letter, local_label, stack_register}
use Rattle.h41_keys.specs.StoredLines.{is_storable, StoresLine}
use Rattle.h41_keys.specs.declared.action.Action.{Action}
use Rattle.h41_keys.specs.declared.input.TypedEntry.{TypedEntry}
use Rattle.h41_keys.specs.declared.input.TypedEntry.TheVariants as entries
use Rattle.h41_keys.specs.declared.input.Flags.{Flags}
use Rattle.h41_keys.specs.declared.input.Input.{Input}
use Rattle.h41_keys.specs.declared.input.Activity.{Activity}
use Rattle.h41_keys.specs.declared.input.Activity.TheVariants as modes
use Rattle.h41_keys.specs.declared.input.Place.{Place}
use Rattle.h41_keys.specs.declared.input.Place.TheVariants as places
use Rattle.h41_keys.specs.declared.input.Pressed.{Pressed}
use Rattle.h41_keys.specs.declared.key.Digit.{Digit}
use Rattle.h41_keys.specs.declared.key.Key.{Key}
use Rattle.h41_keys.specs.declared.meaning.Meaning.{Meaning}
use Rattle.h41_keys.specs.declared.meaning.Meaning.TheVariants as meanings
use Rattle.h41_keys.specs.declared.prompt.Prompt.{Prompt}
use Rattle.h41_keys.specs.declared.prompt.PromptFunction.{PromptFunction}
use Rattle.h41_keys.specs.declared.prompt.PromptLines.{PromptLines}
use Rattle.h41_keys.specs.declared.prompt.PromptLines.TheVariants.{Parameter, Branching}
use Rattle.h41_keys.specs.declared.prompt.Typed.{Typed}
use Rattle.h41_keys.specs.declared.prompt.Typed.TheVariants as typed
use Rattle.h41_keys.specs.declared.prompt_step.PromptStep.{PromptStep}
use Rattle.h41_keys.specs.declared.prompt_step.PromptStep.TheVariants as steps

-- A property of two values is true of the one that is chosen.
chosen : {A : Type 0} (P : A → Type 0) (b : Bool) (one other : A) → P one → P other → P (if b then one else other)
chosen P true one other first second = first
chosen P false one other first second = second

-- The lines of prompts.
abbrev Storable : Line → Type 0
Storable line = IsTrue (is_storable line)

function_line : (function : ParameterFunction) (operand : Operand) → Storable (shortest_function function operand)
function_line Recall (Direct register) = chosen Storable (nat_lt register short_register_count) _ _ refl refl
function_line Store (Direct register) = chosen Storable (nat_lt register short_register_count) _ _ refl refl
function_line Label (Direct label) = chosen Storable (nat_lt label short_label_count) _ _ refl refl
function_line function operand = refl

branch_line : (branch : Branch) (label : ℕ) → Storable (shortest_branch branch label)
branch_line GoTo label = chosen Storable (nat_lt label short_label_count) _ _ refl refl
branch_line Execute label = refl

with_parameter : (lines : PromptLines) (indirect : Bool) (parameter : ℕ) → Storable (line_with lines indirect parameter)
with_parameter (Parameter function) false parameter = function_line function _
with_parameter (Parameter function) true parameter = function_line function _
with_parameter (Branching branch) false parameter = branch_line branch parameter
with_parameter (Branching branch) true parameter = refl

naming : (lines : PromptLines) (name : List ℕ) → Storable (line_naming lines name)
naming (Parameter function) name = refl
naming (Branching GoTo) name = refl
naming (Branching Execute) name = refl

named : (function : PromptFunction) (name : List ℕ) → Storable (name_line function name)
named function [] = naming (prompt_row function).lines []
named function (letter ∷ []) =
    chosen Storable (is_local_letter letter) _ _ (with_parameter (prompt_row function).lines false (local_label letter))
    (naming (prompt_row function).lines (letter ∷ []))
named function (letter ∷ second ∷ rest) = naming (prompt_row function).lines (letter ∷ second ∷ rest)

-- Prompts: the effect of a key is no line, or a line that can be stored.
abbrev Types : Option PromptStep → Type 0
Types (Some (steps.Types line)) = Storable line
Types other = ⊤

ends_with : (prompt : Prompt) (parameter : ℕ) → Types (keys.ends_with prompt parameter)
ends_with prompt parameter = with_parameter (prompt_row prompt.function).lines prompt.indirect parameter

first_digit : (prompt : Prompt) (digit : Digit) → Types (keys.first_digit prompt digit)
first_digit prompt digit = chosen Types (digits_wanted prompt.function prompt.indirect == 1) _ _ (ends_with prompt (value_of digit)) tt

first_point : (prompt : Prompt) → Types (keys.first_point prompt)
first_point prompt =
    chosen Types (takes_stack prompt.function prompt.indirect) _ _ tt (chosen Types (keys.is_go_to prompt.function) _ _ tt tt)

step_combined : (prompt : Prompt) (sign : Option PromptFunction) → Types (keys.step_combined prompt sign)
step_combined prompt (Some function) = chosen Types (keys.is_bare_store prompt.function prompt.indirect) _ _ tt tt
step_combined prompt None = tt

with_nothing : (prompt : Prompt) (meaning : Meaning) → Types (keys.with_nothing prompt meaning)
with_nothing prompt (meanings.Digit digit) = first_digit prompt digit
with_nothing prompt meanings.Point = first_point prompt
with_nothing prompt (meanings.Function function) = step_combined prompt (keys.combined_function function)
with_nothing prompt meanings.Shift = chosen Types (prompt_row prompt.function).indirect _ _ tt tt
with_nothing prompt meanings.Alpha = chosen Types ((prompt_row prompt.function).named && not prompt.indirect) _ _ tt tt
with_nothing prompt other = tt

with_digit_typed : (prompt : Prompt) (first : Digit) (meaning : Meaning) → Types (keys.with_digit_typed prompt first meaning)
with_digit_typed prompt first (meanings.Digit digit) = ends_with prompt _
with_digit_typed prompt first meanings.Shift =
    chosen Types ((prompt_row prompt.function).indirect && (prompt_row prompt.function).digits == 2) _ _ tt tt
with_digit_typed prompt first other = tt

ends_at : (prompt : Prompt) (register : Option ℕ) → Types (keys.ends_at prompt register)
ends_at prompt (Some register) = ends_with prompt register
ends_at prompt None = tt

step_by_letter : (prompt : Prompt) (meaning : Meaning) → Types (keys.step_by_letter prompt meaning)
step_by_letter prompt (meanings.Letter letter) = ends_at prompt (stack_register letter)
step_by_letter prompt other = tt

with_stack_typed : (prompt : Prompt) (plain letter : Meaning) → Types (keys.with_stack_typed prompt plain letter)
with_stack_typed prompt meanings.Shift letter = chosen Types (prompt_row prompt.function).registers _ _ tt tt
with_stack_typed prompt meanings.Back letter = tt
with_stack_typed prompt other letter = step_by_letter prompt letter

with_point_typed : (prompt : Prompt) (meaning : Meaning) → Types (keys.with_point_typed prompt meaning)
with_point_typed prompt meanings.Point = tt
with_point_typed prompt meanings.Back = tt
with_point_typed prompt other = tt

name_letter : (prompt : Prompt) (name : List ℕ) (meaning : Meaning) → Types (keys.name_letter prompt name meaning)
name_letter prompt name (meanings.Letter letter) = chosen Types (nat_lt (length name) 7) _ _ tt tt
name_letter prompt name other = tt

name_ended : (prompt : Prompt) (name : List ℕ) → Types (keys.name_ended prompt name)
name_ended prompt [] = tt
name_ended prompt (letter ∷ rest) = chosen Types (prompt_row prompt.function).named _ _ (named prompt.function (letter ∷ rest)) tt

name_shortened : (prompt : Prompt) (name : List ℕ) → Types (keys.name_shortened prompt name)
name_shortened prompt [] = tt
name_shortened prompt (letter ∷ rest) = tt

with_name_typed : (prompt : Prompt) (name : List ℕ) (shift : Bool) (plain letter shifted_letter : Meaning)
    → Types (keys.with_name_typed prompt name shift plain letter shifted_letter)
with_name_typed prompt name shift meanings.Alpha letter shifted_letter = name_ended prompt name
with_name_typed prompt name false meanings.Back letter shifted_letter = name_shortened prompt name
with_name_typed prompt name false plain letter shifted_letter = name_letter prompt name letter
with_name_typed prompt name true plain letter shifted_letter = name_letter prompt name shifted_letter

prompt_step : (prompt : Prompt) (so_far : Typed) (shift : Bool) (key : Key) → Types (keys.prompt_step prompt so_far shift key)
prompt_step prompt typed.Nothing shift key = with_nothing prompt (row_of key).plain
prompt_step prompt (typed.Digit digit) shift key = with_digit_typed prompt digit (row_of key).plain
prompt_step prompt typed.Stack shift key = with_stack_typed prompt (row_of key).plain (row_of key).letter
prompt_step prompt typed.Point shift key = with_point_typed prompt (row_of key).plain
prompt_step prompt (typed.Name name) shift key =
    with_name_typed prompt name shift (row_of key).plain (row_of key).letter (row_of key).shifted_letter

-- Keys: what they store can be stored.
abbrev Stores : Pressed → Type 0
Stores pressed = StoresLine pressed.action

line_typed : (input : Input) (program_mode : Bool) (line : Line) → Storable line → Stores (press.typed_line input program_mode line)
line_typed input true line storable = storable
line_typed input false line storable = tt

function_typed : (input : Input) (function : Function) → Stores (press.function_typed input function)
function_typed input function = line_typed input input.program_mode _ refl

-- Numbers.
number_begun : (input : Input) (program_mode : Bool) (text : List Character) → Stores (press.number_begun input program_mode text)
number_begun input true text = refl
number_begun input false text = tt

number_changed : (input : Input) (program_mode : Bool) (text : List Character) → Stores (press.number_changed input program_mode text)
number_changed input true text = refl
number_changed input false text = tt

number_ended : (input : Input) (program_mode : Bool) → Stores (press.number_ended input program_mode)
number_ended input true = tt
number_ended input false = tt

number_becomes : (input : Input) (before after : List Character) → Stores (press.number_becomes input before after)
number_becomes input before after =
    chosen Stores (length after == 0) _ _ (number_ended input input.program_mode)
    (chosen Stores (length before == 0) _ _ (number_begun input input.program_mode after)
    (chosen Stores (length after == length before) _ _ tt (number_changed input input.program_mode after)))

number_typed : (input : Input) (change : List Character → List Character) → Stores (press.number_typed input change)
number_typed input change =
    number_becomes input (press.number_in input.entry) (kept_within (press.number_in input.entry) (change (press.number_in input.entry)))

sign_pressed : (input : Input) (entry : TypedEntry) → Stores (press.sign_pressed input entry)
sign_pressed input (entries.Number text) = number_typed input with_sign_turned
sign_pressed input other = function_typed input _

press_of_clear : (input : Input) (program_mode : Bool) → Stores (press.press_of_clear input program_mode)
press_of_clear input true = tt
press_of_clear input false = function_typed input _

back_pressed : (input : Input) (entry : TypedEntry) → Stores (press.back_pressed input entry)
back_pressed input (entries.Number text) = number_becomes input text (without_last text)
back_pressed input other = press_of_clear input input.program_mode

-- Texts.
letter_typed : (input : Input) (program_mode : Bool) (entry : TypedEntry) (letter : ℕ)
    → Stores (press.letter_typed input program_mode entry letter)
letter_typed input false entries.Append letter = tt
letter_typed input false entries.Letters letter = tt
letter_typed input false other letter = tt
letter_typed input true entries.Append letter = refl
letter_typed input true (entries.TextLine text) letter = chosen Stores (nat_lt (length text) text_most) _ _ refl tt
letter_typed input true other letter = refl

letter_taken : (input : Input) (program_mode : Bool) (entry : TypedEntry) → Stores (press.letter_taken input program_mode entry)
letter_taken input false entries.Letters = tt
letter_taken input false other = tt
letter_taken input true (entries.TextLine text) = chosen Stores (press.has_letter (without_last text)) _ _ refl tt
letter_taken input true other = tt

append_pressed : (input : Input) (program_mode : Bool) (entry : TypedEntry) → Stores (press.append_pressed input program_mode entry)
append_pressed input false entries.Letters = tt
append_pressed input program_mode other = tt

run_pressed : (input : Input) (program_mode : Bool) → Stores (press.run_pressed input program_mode)
run_pressed input true = function_typed input _
run_pressed input false = tt

-- A key that is accepted stores such a line, or none.
abbrev IfPressed : Option Pressed → Type 0
IfPressed pressed = IfSome pressed Stores

acts : (input : Input) (meaning : Meaning) → IfPressed (press.acts input meaning)
acts input meanings.RunStop = run_pressed input input.program_mode
acts input meanings.Back = back_pressed input input.entry
acts input meanings.LetterBack = letter_taken input input.program_mode input.entry
acts input (meanings.Digit digit) = number_typed input (λ text. with_digit text digit)
acts input meanings.Point = number_typed input with_point
acts input meanings.Exponent = number_typed input with_exponent
acts input meanings.Sign = sign_pressed input input.entry
acts input (meanings.Function function) = function_typed input function
acts input (meanings.Letter letter) = letter_typed input input.program_mode input.entry letter
acts input meanings.Append = append_pressed input input.program_mode input.entry
acts input other = tt

stepped : (input : Input) (step : Option PromptStep) → Types step → IfPressed (press.press_of_step input step)
stepped input (Some (steps.Types line)) storable = line_typed (press.prompt_ended input) input.program_mode line storable
stepped input (Some other) storable = tt
stepped input None storable = tt

in_prompt : (input : Input) (prompt : Prompt) (key : Key) → IfPressed (press.in_prompt input prompt key)
in_prompt input prompt key =
    chosen IfPressed (press.shifts_name prompt.typed (row_of key).plain) _ _ (acts input meanings.Shift)
    (stepped input _ (prompt_step prompt prompt.typed input.shift key))

by_prompt : (input : Input) (prompt : Option Prompt) (letters : Bool) (key : Key) → IfPressed (press.by_prompt input prompt letters key)
by_prompt input (Some prompt) letters key = in_prompt input prompt key
by_prompt input None letters key = acts input (meaning_of key letters input.shift)

idle : (input : Input) (key : Key) (flags : Flags) → IfPressed (press.press_in_idle input key flags)
idle input key flags =
    chosen IfPressed (flags.message && not input.shift && press.is_back key) _ _ tt (by_prompt input input.prompt flags.alpha key)

while_running : (input : Input) (meaning : Meaning) → IfPressed (press.while_running input meaning)
while_running input meanings.Nothing = tt
while_running input meanings.RunStop = tt
while_running input other = tt

while_in_microcode : (input : Input) (meaning : Meaning) → IfPressed (press.while_in_microcode input meaning)
while_in_microcode input meanings.Nothing = tt
while_in_microcode input other = tt

-- An accepted key stores the same line if it is checked for pages.
held_in_page : (deletes_nothing puts_end : Bool) (pressed : Option Pressed) → IfPressed pressed
    → IfPressed (press.held_in_page deletes_nothing puts_end pressed)
held_in_page deletes_nothing puts_end (Some pressed) stores =
    chosen IfPressed (press.is_held deletes_nothing puts_end pressed.action) (Some pressed) None stores tt
held_in_page deletes_nothing puts_end None stores = tt

held_at : (place : Place) (program_mode : Bool) (pressed : Option Pressed) → IfPressed pressed
    → IfPressed (press.held_at place program_mode pressed)
held_at places.Memory program_mode pressed stores = stores
held_at (places.Page deletes_nothing puts_end) false pressed stores = stores
held_at (places.Page deletes_nothing puts_end) true pressed stores = held_in_page deletes_nothing puts_end pressed stores

presses_store : (input : Input) (key : Key) (mode : Activity) (flags : Flags) → IfPressed (press.presses input key mode flags)
presses_store input key modes.Idle flags =
    held_at flags.place input.program_mode (press.press_in_idle input key flags) (idle input key flags)
presses_store input key modes.Run flags = while_running input (row_of key).plain
presses_store input key modes.Micro flags = while_in_microcode input (row_of key).plain

-- An accepted key's action stores such a line, or none.
pub accepted_stores : (before : Input) (key : Key) (mode : Activity) (flags : Flags) (action : Action) (after : Input)
    → press.Accepts before key mode flags action after → StoresLine action
accepted_stores before key mode flags action after accepted = subst IfPressed accepted (presses_store before key mode flags)
