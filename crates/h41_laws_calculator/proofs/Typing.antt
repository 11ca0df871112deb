-- The lines that keys store and execute can be encoded in bytes, and what a keyboard remembers
-- remains well-formed.
use Rattle.std.proofs.Common.{◌≡◌, ℕ, ◌-◌, ◌<◌, ◌≤◌, Bool, true, false, List, [], ◌∷◌, ◌++◌, length, take, Option, Some, None}
use Rattle.std.proofs.Common.{refl, arith, length-append, rules}
use Rattle.std.specs.Prelude.{IfSome, ◌==◌}
use Rattle.std.proofs.lemmas.Bool.{and_parts, leb-true, ltb-true}
use Rattle.std.proofs.lemmas.Bool.Decides.{nat_tests}
use Rattle.std.proofs.lemmas.List.{length-take}
use Rattle.std.proofs.lemmas.List.Elements.{All-append, All-cons, All-take}
use Rattle.h41_codes.specs.ByteGrammar.{IsText}
use Rattle.h41_codes.specs.declared.characters.Character.{Character}
use Rattle.h41_codes.specs.declared.functions.Function.{Function}
use Rattle.h41_codes.specs.declared.functions.Function.TheVariants as functions
use Rattle.h41_codes.specs.declared.line.Line.{Line}
use Rattle.h41_keys.specs.Keyboard.{row_of, meaning_of}
use Rattle.h41_keys.specs.KeyPress as press
use Rattle.h41_keys.specs.NumberTyping.{with_digit, with_point, with_exponent, with_sign_turned, without_last, kept_within, value_of}
use Rattle.h41_keys.specs.PromptKeys as keys
use Rattle.h41_keys.specs.Prompts.{prompt_row, line_naming, name_line, parameter_line, stack_register}
use Rattle.h41_keys.specs.declared.input.TypedEntry.{TypedEntry}
use Rattle.h41_keys.specs.declared.input.TypedEntry.TheVariants as entries
use Rattle.h41_keys.specs.declared.input.Input.{Input}
use Rattle.h41_keys.specs.declared.input.Activity.TheVariants as modes
use Rattle.h41_keys.specs.declared.input.Place.{Place}
use Rattle.h41_keys.specs.declared.input.Place.TheVariants as places
use Rattle.h41_keys.specs.declared.input.Pressed.{Pressed}
use Rattle.h41_keys.specs.declared.key.Digit.{Digit}
use Rattle.h41_keys.specs.declared.key.Digit.TheVariants as digits
use Rattle.h41_keys.specs.declared.key.Key.{Key}
use Rattle.h41_keys.specs.declared.key.Key.TheVariants as keyboard
use Rattle.h41_keys.specs.declared.meaning.Meaning.{Meaning}
use Rattle.h41_keys.specs.declared.meaning.Meaning.TheVariants as meanings
use Rattle.h41_keys.specs.declared.prompt.Prompt.{Prompt}
use Rattle.h41_keys.specs.declared.prompt.PromptFunction.{PromptFunction}
use Rattle.h41_keys.specs.declared.prompt.PromptFunction.TheVariants as prompts
use Rattle.h41_keys.specs.declared.prompt.Typed.{Typed}
use Rattle.h41_keys.specs.declared.prompt.Typed.TheVariants as typed
use Rattle.h41_keys.specs.declared.prompt_step.PromptStep.{PromptStep}
use Rattle.h41_keys.specs.declared.prompt_step.PromptStep.TheVariants as steps
use Rattle.h41_program.specs.ProgramLaws.{IsInner}
use Rattle.h41_laws_calculator.specs.WholeInputs.{IsWholeEntry, IsWholeInput, IsWholePress, IsWholePrompt, IsWholeTyped, KeyLeavesWhole}
use Rattle.h41_laws_calculator.proofs.Bytes.{IsByte, alone, chosen, of_text, to_text}

-- THE LINES OF PROMPTS
with_parameter : (function : PromptFunction) (indirect : Bool) (parameter : ℕ) → parameter < 128
    → IsInner (parameter_line function indirect parameter)
with_parameter prompts.Execute false parameter small = record { valid = (omega arith, small); inner = refl }
with_parameter prompts.GoTo false parameter small = search (rules, chosen, ltb-true)
with_parameter prompts.Label false parameter small = search (rules, chosen, ltb-true)
with_parameter prompts.Store false parameter small = search (rules, chosen, ltb-true)
with_parameter prompts.Recall false parameter small = search (rules, chosen, ltb-true)
with_parameter function false parameter small = record { valid = small; inner = refl }
with_parameter prompts.Execute true parameter small = record { valid = small; inner = refl }
with_parameter function true parameter small = record { valid = small; inner = refl }

longer : (few most : ℕ) (name : List ℕ) → IsText few name → few ≤ most → IsText most name
longer few most name text less = record { fits = omega (arith, text.fits); bytes = text.bytes }

naming : (function : PromptFunction) (name : List ℕ) → IsText 7 name → IsInner (line_naming (prompt_row function).lines name)
naming prompts.GoTo name text = record { valid = longer 7 15 name text (omega arith); inner = refl }
naming prompts.Execute name text = record { valid = longer 7 15 name text (omega arith); inner = refl }
naming function name text = record { valid = (omega arith, omega arith, longer 7 14 name text (omega arith)); inner = refl }

named : (function : PromptFunction) (name : List ℕ) → IsText 7 name → IsInner (name_line function name)
named function [] text = naming function [] text
named function (letter ∷ []) text = search (rules, chosen, with_parameter, leb-true, and_parts, naming)
named function (letter ∷ second ∷ rest) text = naming function (letter ∷ second ∷ rest) text

-- Texts, one character longer or shorter.
text_more : (most : ℕ) (text : List ℕ) (letter : ℕ) → IsText most text → letter < 256 → length text < most
    → IsText most (text ++ letter ∷ [])
text_more most text letter is small less = record {
  fits = omega (arith, length-append text (letter ∷ []));
  bytes = to_text (text ++ letter ∷ []) (All-append IsByte text (letter ∷ []) (of_text text is.bytes) (alone letter small));
}

text_less : (most count : ℕ) (text : List ℕ) → IsText most text → IsText most (take count text)
text_less most count text is = record {
  fits = omega (arith, length-take count text, is.fits);
  bytes = to_text (take count text) (All-take IsByte count text (of_text text is.bytes));
}

-- LETTERS are bytes.
abbrev IsSmall : Meaning → Type 0
IsSmall (meanings.Letter letter) = letter < 256
IsSmall other = Unit {0}

letter_small : (key : Key) → IsSmall (row_of key).letter
letter_small keyboard.On = tt
letter_small key = search rules

shifted_small : (key : Key) → IsSmall (row_of key).shifted_letter
shifted_small keyboard.Minus = omega arith
shifted_small key = search rules

plain_small : (key : Key) → IsSmall (row_of key).plain
plain_small keyboard.On = tt
plain_small key = tt

plain_shifted_small : (key : Key) → IsSmall (row_of key).shifted
plain_shifted_small keyboard.On = tt
plain_shifted_small key = tt

meaning_small : (key : Key) (letters shift : Bool) → IsSmall (meaning_of key letters shift)
meaning_small key false false = plain_small key
meaning_small key false true = plain_shifted_small key
meaning_small key true false = letter_small key
meaning_small key true true = shifted_small key

-- PROMPTS. A key in a prompt types such a line, or leaves such a prompt.
abbrev IsWholeStep : Option PromptStep → Type 0
IsWholeStep (Some (steps.Types line)) = IsInner line
IsWholeStep (Some (steps.Becomes prompt)) = IsWholeTyped prompt.typed
IsWholeStep other = Unit {0}

ten_most : (digit : Digit) → value_of digit ≤ 9
ten_most digits.Zero = omega arith
ten_most digit = omega arith

ends_with : (prompt : Prompt) (parameter : ℕ) → parameter < 128 → IsWholeStep (keys.ends_with prompt parameter)
ends_with prompt parameter small = with_parameter prompt.function prompt.indirect parameter small

step_combined : (prompt : Prompt) (sign : Option PromptFunction) → IsWholeTyped prompt.typed → IsWholeStep (keys.step_combined prompt sign)
step_combined prompt (Some function) whole = search (rules, chosen)
step_combined prompt None whole = tt

with_nothing : (prompt : Prompt) (meaning : Meaning) → IsWholeTyped prompt.typed → IsWholeStep (keys.with_nothing prompt meaning)
with_nothing prompt (meanings.Digit digit) whole = search (rules, chosen, ends_with, ten_most)
with_nothing prompt meanings.Point whole = search (rules, chosen)
with_nothing prompt (meanings.Function function) whole = step_combined prompt (keys.combined_function function) whole
with_nothing prompt meanings.Shift whole = chosen IsWholeStep (prompt_row prompt.function).indirect _ _ (λ is. whole) (λ other. tt)
with_nothing prompt meanings.Alpha whole = search (rules, chosen)
with_nothing prompt other whole = tt

with_digit_typed : (prompt : Prompt) (first : Digit) (meaning : Meaning) → IsWholeTyped prompt.typed
    → IsWholeStep (keys.with_digit_typed prompt first meaning)
with_digit_typed prompt first (meanings.Digit digit) whole = search (rules, ends_with, ten_most)
with_digit_typed prompt first meanings.Shift whole = search (rules, chosen)
with_digit_typed prompt first other whole = tt

ends_at : (prompt : Prompt) (register : Option ℕ) → IfSome register (λ number. number < 128) → IsWholeStep (keys.ends_at prompt register)
ends_at prompt (Some register) small = ends_with prompt register small
ends_at prompt None small = tt

abbrev IsSmallNumber : Option ℕ → Type 0
IsSmallNumber register = IfSome register (λ number. number < 128)

stack_small : (letter : ℕ) → IsSmallNumber (stack_register letter)
stack_small letter = search (rules, chosen)

step_by_letter : (prompt : Prompt) (meaning : Meaning) → IsWholeStep (keys.step_by_letter prompt meaning)
step_by_letter prompt (meanings.Letter letter) = ends_at prompt (stack_register letter) (stack_small letter)
step_by_letter prompt other = tt

with_stack_typed : (prompt : Prompt) (plain letter : Meaning) → IsWholeTyped prompt.typed
    → IsWholeStep (keys.with_stack_typed prompt plain letter)
with_stack_typed prompt meanings.Shift letter whole = search (rules, chosen)
with_stack_typed prompt meanings.Back letter whole = tt
with_stack_typed prompt other letter whole = step_by_letter prompt letter

with_point_typed : (prompt : Prompt) (meaning : Meaning) → IsWholeStep (keys.with_point_typed prompt meaning)
with_point_typed prompt meanings.Point = tt
with_point_typed prompt meaning = tt

name_letter : (prompt : Prompt) (name : List ℕ) (meaning : Meaning) → IsText 7 name → IsSmall meaning
    → IsWholeStep (keys.name_letter prompt name meaning)
name_letter prompt name (meanings.Letter letter) text small = search (rules, chosen, text_more, ltb-true)
name_letter prompt name other text small = tt

name_ended : (prompt : Prompt) (name : List ℕ) → IsText 7 name → IsWholeStep (keys.name_ended prompt name)
name_ended prompt [] text = tt
name_ended prompt (letter ∷ rest) text =
    chosen IsWholeStep (prompt_row prompt.function).named _ _ (λ is. named prompt.function (letter ∷ rest) text) (λ other. tt)

name_shortened : (prompt : Prompt) (name : List ℕ) → IsText 7 name → IsWholeStep (keys.name_shortened prompt name)
name_shortened prompt [] text = tt
name_shortened prompt (letter ∷ rest) text = text_less 7 (length (letter ∷ rest) - 1) (letter ∷ rest) text

with_name_typed : (prompt : Prompt) (name : List ℕ) (shift : Bool) (plain letter shifted_letter : Meaning) → IsText 7 name
    → IsSmall letter → IsSmall shifted_letter → IsWholeStep (keys.with_name_typed prompt name shift plain letter shifted_letter)
with_name_typed prompt name shift meanings.Alpha letter shifted_letter text small shifted = name_ended prompt name text
with_name_typed prompt name false meanings.Back letter shifted_letter text small shifted = name_shortened prompt name text
with_name_typed prompt name false plain letter shifted_letter text small shifted = name_letter prompt name letter text small
with_name_typed prompt name true plain letter shifted_letter text small shifted = search (rules, name_letter)

prompt_step : (prompt : Prompt) (so_far : Typed) (shift : Bool) (key : Key) → IsWholeTyped prompt.typed → IsWholeTyped so_far
    → IsWholeStep (keys.prompt_step prompt so_far shift key)
prompt_step prompt typed.Nothing shift key whole is = with_nothing prompt (row_of key).plain whole
prompt_step prompt (typed.Digit digit) shift key whole is = with_digit_typed prompt digit (row_of key).plain whole
prompt_step prompt typed.Stack shift key whole is = with_stack_typed prompt (row_of key).plain (row_of key).letter whole
prompt_step prompt typed.Point shift key whole is = with_point_typed prompt (row_of key).plain
prompt_step prompt (typed.Name name) shift key whole is = search (rules, with_name_typed, letter_small, shifted_small)

-- KEYS. What is being typed afterwards.
entered : (input : Input) (entry : TypedEntry) → IsWholeInput input → IsWholeEntry entry → IsWholeInput (press.with_entry input entry)
entered input entry whole is = record { entry = is; prompt = whole.prompt }

ended : (input : Input) → IsWholeInput input → IsWholeInput (press.without_entry input)
ended input whole = record { entry = tt; prompt = whole.prompt }

kept_entry : (entry : TypedEntry) → IsWholeEntry entry → IsWholeEntry (press.without_number entry)
kept_entry (entries.Number number) whole = tt
kept_entry other whole = whole

line_typed : (input : Input) (program_mode : Bool) (line : Line) → IsWholeInput input → IsInner line
    → IsWholePress (press.typed_line input program_mode line)
line_typed input true line whole inner = (inner, ended input whole)
line_typed input false line whole inner = search (rules, entered, kept_entry)

function_typed : (input : Input) (function : Function) → IsWholeInput input → IsWholePress (press.function_typed input function)
function_typed input function whole = search (rules, line_typed)

-- Numbers.
number_begun : (input : Input) (program_mode : Bool) (text : List Character) → IsWholeInput input → 1 ≤ length text → length text ≤ 16
    → IsWholePress (press.number_begun input program_mode text)
number_begun input true text whole some few = search (rules, entered)
number_begun input false text whole some few = (tt, entered input (entries.Number text) whole few)

number_changed : (input : Input) (program_mode : Bool) (text : List Character) → IsWholeInput input → 1 ≤ length text → length text ≤ 16
    → IsWholePress (press.number_changed input program_mode text)
number_changed input true text whole some few = search (rules, entered)
number_changed input false text whole some few = (tt, entered input (entries.Number text) whole few)

number_ended : (input : Input) (program_mode : Bool) → IsWholeInput input → IsWholePress (press.number_ended input program_mode)
number_ended input true whole = (tt, ended input whole)
number_ended input false whole = (tt, ended input whole)

some_of : (count : ℕ) → (count == 0) ≡ false → 1 ≤ count
some_of count is = grind (arith, nat_tests)

number_becomes : (input : Input) (before after : List Character) → IsWholeInput input → length after ≤ 16
    → IsWholePress (press.number_becomes input before after)
number_becomes input before after whole few = search (rules, chosen, number_ended, number_begun, some_of, entered, number_changed)

number_few : (entry : TypedEntry) → IsWholeEntry entry → length (press.number_in entry) ≤ 16
number_few (entries.Number text) whole = whole
number_few other whole = omega arith

abbrev IsFew : List Character → Type 0
IsFew text = length text ≤ 16

kept_few : (before after : List Character) → length before ≤ 16 → length (kept_within before after) ≤ 16
kept_few before after few = search (rules, chosen, leb-true)

number_typed : (input : Input) (change : List Character → List Character) → IsWholeInput input
    → IsWholePress (press.number_typed input change)
number_typed input change whole = search (rules, number_becomes, kept_few, number_few)

sign_pressed : (input : Input) (entry : TypedEntry) → IsWholeInput input → IsWholePress (press.sign_pressed input entry)
sign_pressed input (entries.Number text) whole = number_typed input with_sign_turned whole
sign_pressed input other whole = function_typed input functions.ChangeSign whole

press_of_clear : (input : Input) (program_mode : Bool) → IsWholeInput input → IsWholePress (press.press_of_clear input program_mode)
press_of_clear input true whole = (tt, ended input whole)
press_of_clear input false whole = function_typed input functions.ClearX whole

back_pressed : (input : Input) (entry : TypedEntry) → IsWholeInput input → IsWholeEntry entry
    → IsWholePress (press.back_pressed input entry)
back_pressed input (entries.Number text) whole few = search (rules, number_becomes, length-take)
back_pressed input other whole is = press_of_clear input input.program_mode whole

-- Texts.
inserts : (input : Input) (text : List ℕ) → IsWholeInput input → IsText 15 text → IsWholePress (press.text_line input press.inserts text)
inserts input text whole is = (record { valid = is; inner = refl }, entered input (entries.TextLine text) whole is)

changes : (input : Input) (text : List ℕ) → IsWholeInput input → IsText 15 text → IsWholePress (press.changed_line input text)
changes input text whole is = (record { valid = is; inner = refl }, entered input (entries.TextLine text) whole is)

letter_typed : (input : Input) (program_mode : Bool) (entry : TypedEntry) (letter : ℕ) → IsWholeInput input → IsWholeEntry entry
    → letter < 256 → IsWholePress (press.letter_typed input program_mode entry letter)
letter_typed input false entries.Append letter whole is small = (small, entered input entries.Letters whole tt)
letter_typed input false entries.Letters letter whole is small = (small, entered input entries.Letters whole tt)
letter_typed input false other letter whole is small = (small, entered input entries.Letters whole tt)
letter_typed input true entries.Append letter whole is small = search (rules, inserts, to_text, All-cons, alone)
letter_typed input true (entries.TextLine text) letter whole is small = search (rules, chosen, changes, text_more, ltb-true, entered)
letter_typed input true other letter whole is small = search (rules, inserts, to_text, alone)

letter_taken : (input : Input) (program_mode : Bool) (entry : TypedEntry) → IsWholeInput input → IsWholeEntry entry
    → IsWholePress (press.letter_taken input program_mode entry)
letter_taken input false entries.Letters whole is = (tt, entered input entries.Letters whole tt)
letter_taken input false other whole is = (tt, ended input whole)
letter_taken input true (entries.TextLine text) whole is =
    chosen IsWholePress (press.has_letter (without_last text)) _ _
    (λ some. changes input (without_last text) whole (text_less 15 (length text - 1) text is)) (λ none. (tt, ended input whole))
letter_taken input true other whole is = (tt, ended input whole)

append_pressed : (input : Input) (program_mode : Bool) (entry : TypedEntry) → IsWholeInput input
    → IsWholePress (press.append_pressed input program_mode entry)
append_pressed input false entries.Letters whole = (tt, entered input entries.Letters whole tt)
append_pressed input program_mode other whole = (tt, entered input entries.Append whole tt)

run_pressed : (input : Input) (program_mode : Bool) → IsWholeInput input → IsWholePress (press.run_pressed input program_mode)
run_pressed input true whole = function_typed input functions.Stop whole
run_pressed input false whole = (tt, ended input whole)

-- A key that is accepted.
abbrev IfPressed : Option Pressed → Type 0
IfPressed pressed = IfSome pressed IsWholePress

acts : (input : Input) (meaning : Meaning) → IsWholeInput input → IsSmall meaning → IfPressed (press.acts input meaning)
acts input meanings.Nothing whole small = tt
acts input meanings.Shift whole small = (tt, record { entry = whole.entry; prompt = whole.prompt })
acts input meanings.Program whole small = (tt, record { entry = tt; prompt = whole.prompt })
acts input meanings.RunStop whole small = run_pressed input input.program_mode whole
acts input meanings.Back whole small = back_pressed input input.entry whole whole.entry
acts input meanings.LetterBack whole small = letter_taken input input.program_mode input.entry whole whole.entry
acts input (meanings.Digit digit) whole small = number_typed input (λ text. with_digit text digit) whole
acts input meanings.Point whole small = number_typed input with_point whole
acts input meanings.Exponent whole small = number_typed input with_exponent whole
acts input meanings.Sign whole small = sign_pressed input input.entry whole
acts input (meanings.Function function) whole small = function_typed input function whole
acts input (meanings.Ask function) whole small = (tt, record { entry = kept_entry input.entry whole.entry; prompt = tt })
acts input (meanings.Letter letter) whole small = letter_typed input input.program_mode input.entry letter whole whole.entry small
acts input meanings.Append whole small = append_pressed input input.program_mode input.entry whole
acts input meaning whole small = (tt, ended input whole)

prompt_ended : (input : Input) → IsWholeInput input → IsWholeInput (press.prompt_ended input)
prompt_ended input whole = record { entry = whole.entry; prompt = tt }

stepped : (input : Input) (step : Option PromptStep) → IsWholeInput input → IsWholeStep step → IfPressed (press.press_of_step input step)
stepped input (Some (steps.Becomes prompt)) whole is = (tt, record { entry = whole.entry; prompt = is })
stepped input (Some steps.Cancels) whole is = (tt, prompt_ended input whole)
stepped input (Some (steps.Types line)) whole is = search (rules, line_typed, prompt_ended)
stepped input (Some steps.GoesToEnd) whole is = (tt, ended (press.prompt_ended input) (prompt_ended input whole))
stepped input None whole is = tt

by_prompt : (input : Input) (prompt : Option Prompt) (letters : Bool) (key : Key) → IsWholeInput input → IsWholePrompt prompt
    → IfPressed (press.by_prompt input prompt letters key)
by_prompt input (Some prompt) letters key whole is = search (rules, chosen, acts, stepped, prompt_step)
by_prompt input None letters key whole is = acts input (meaning_of key letters input.shift) whole (meaning_small key letters input.shift)

while_running : (input : Input) (meaning : Meaning) → IsWholeInput input → IfPressed (press.while_running input meaning)
while_running input meanings.Nothing whole = tt
while_running input meanings.RunStop whole = (tt, whole)
while_running input other whole = (tt, whole)

while_in_microcode : (input : Input) (meaning : Meaning) → IsWholeInput input → IfPressed (press.while_in_microcode input meaning)
while_in_microcode input meanings.Nothing whole = tt
while_in_microcode input other whole = (tt, whole)

-- A key that remains supported does what it did.
held_in_page : (deletes_nothing puts_end : Bool) (pressed : Option Pressed) → IfPressed pressed
    → IfPressed (press.held_in_page deletes_nothing puts_end pressed)
held_in_page deletes_nothing puts_end (Some pressed) whole = search (rules, chosen)
held_in_page deletes_nothing puts_end None whole = tt

held_at : (place : Place) (program_mode : Bool) (pressed : Option Pressed) → IfPressed pressed
    → IfPressed (press.held_at place program_mode pressed)
held_at places.Memory program_mode pressed whole = whole
held_at (places.Page deletes_nothing puts_end) false pressed whole = whole
held_at (places.Page deletes_nothing puts_end) true pressed whole = held_in_page deletes_nothing puts_end pressed whole

pub presses_whole : KeyLeavesWhole
presses_whole input key modes.Idle flags whole = search (rules, held_at, chosen, by_prompt)
presses_whole input key modes.Run flags whole = while_running input (row_of key).plain whole
presses_whole input key modes.Micro flags whole = while_in_microcode input (row_of key).plain whole
