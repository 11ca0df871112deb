-- The effect of each key on a prompt. Keys that are not mentioned here are refused.
use Rattle.std.specs.Prelude.{ℕ, ◌+◌, ◌*◌, nat_lt, Bool, true, false, not, ◌&&◌, ◌==◌, List, []}
use Rattle.std.specs.Prelude.{◌∷◌, ◌++◌, length, Option, Some, None, if◌then◌else◌}
use Rattle.h41_codes.specs.declared.functions.Function.{Function}
use Rattle.h41_codes.specs.declared.functions.Function.TheVariants as functions
use Rattle.h41_keys.specs.Keyboard.{KeyRow, row_of}
use Rattle.h41_keys.specs.NumberTyping.{value_of, without_last}
use Rattle.h41_keys.specs.Prompts.{prompt_row, digits_wanted, takes_stack, parameter_line}
use Rattle.h41_keys.specs.Prompts.{name_line, stack_register}
use Rattle.h41_keys.specs.declared.key.Digit.{Digit}
use Rattle.h41_keys.specs.declared.key.Key.{Key}
use Rattle.h41_keys.specs.declared.meaning.Meaning.{Meaning}
use Rattle.h41_keys.specs.declared.meaning.Meaning.TheVariants as meanings
use Rattle.h41_keys.specs.declared.prompt.Prompt.{Prompt}
use Rattle.h41_keys.specs.declared.prompt.PromptFunction.{PromptFunction}
use Rattle.h41_keys.specs.declared.prompt.PromptFunction.TheVariants as prompts
use Rattle.h41_keys.specs.declared.prompt.Typed.{Typed}
use Rattle.h41_keys.specs.declared.prompt.Typed.TheVariants as typed
use Rattle.h41_keys.specs.declared.prompt_step.PromptStep.{PromptStep}
use Rattle.h41_keys.specs.declared.prompt_step.PromptStep.TheVariants as steps

-- The prompt remains open with this part of the parameter typed.
abbrev pub goes_on : Prompt → Typed → Option PromptStep
goes_on prompt more = Some (steps.Becomes (record prompt { typed = more }))

-- The parameter is complete.
abbrev pub ends_with : Prompt → ℕ → Option PromptStep
ends_with prompt parameter =
    Some (steps.Types (parameter_line prompt.function prompt.indirect parameter))

-- SHIFT adds IND to the parameter, or removes it.
abbrev pub turns_indirect : Prompt → Option PromptStep
turns_indirect prompt = Some (steps.Becomes (record prompt { indirect = not prompt.indirect }))

-- A first digit: the only one, or one of two.
abbrev pub first_digit : Prompt → Digit → Option PromptStep
first_digit prompt digit =
    if digits_wanted prompt.function prompt.indirect == 1 then ends_with prompt (value_of digit)
    else goes_on prompt (typed.Digit digit)

-- Whether the function is GTO.
abbrev pub is_go_to : PromptFunction → Bool
is_go_to prompts.GoTo = true
is_go_to other = false

-- The decimal point as the first key: the letter of a stack register follows, or the second point
-- of GTO . .
abbrev pub first_point : Prompt → Option PromptStep
first_point prompt =
    if takes_stack prompt.function prompt.indirect then goes_on prompt typed.Stack
    else if is_go_to prompt.function then goes_on prompt typed.Point
    else None

-- The key + - * or / after STO: the register and X are combined.
abbrev pub combined_function : Function → Option PromptFunction
combined_function functions.Add = Some prompts.StoreAdd
combined_function functions.Subtract = Some prompts.StoreSubtract
combined_function functions.Multiply = Some prompts.StoreMultiply
combined_function functions.Divide = Some prompts.StoreDivide
combined_function other = None

-- Whether the function is STO, without IND.
abbrev pub is_bare_store : PromptFunction → Bool → Bool
is_bare_store prompts.Store false = true
is_bare_store function indirect = false

-- The effect of + - * or / on a prompt.
abbrev pub step_combined : Prompt → Option PromptFunction → Option PromptStep
step_combined prompt (Some function) =
    if is_bare_store prompt.function prompt.indirect
    then Some (steps.Becomes (record prompt { function = function }))
    else None
step_combined prompt None = None

-- The effect of a key while nothing is typed yet.
abbrev pub with_nothing : Prompt → Meaning → Option PromptStep
with_nothing prompt (meanings.Digit digit) = first_digit prompt digit
with_nothing prompt meanings.Point = first_point prompt
with_nothing prompt (meanings.Function function) = step_combined prompt (combined_function function)
with_nothing prompt meanings.Shift =
    if (prompt_row prompt.function).indirect then turns_indirect prompt else None
-- ALPHA begins a name, if the function takes one and there is no IND.
with_nothing prompt meanings.Alpha =
    if (prompt_row prompt.function).named && not prompt.indirect then goes_on prompt (typed.Name [])
    else None
-- BACK cancels the prompt; it never removes only IND.
with_nothing prompt meanings.Back = Some steps.Cancels
with_nothing prompt other = None

-- The effect of a key after the first of two digits.
abbrev pub with_digit_typed : Prompt → Digit → Meaning → Option PromptStep
with_digit_typed prompt first (meanings.Digit digit) =
    ends_with prompt (10 * value_of first + value_of digit)
-- IND is added or removed if two digits are expected without it, too.
with_digit_typed prompt first meanings.Shift =
    if (prompt_row prompt.function).indirect && (prompt_row prompt.function).digits == 2
    then turns_indirect prompt
    else None
with_digit_typed prompt first meanings.Back = goes_on prompt typed.Nothing
with_digit_typed prompt first other = None

-- The parameter is a stack register, if there is one with the letter.
abbrev pub ends_at : Prompt → Option ℕ → Option PromptStep
ends_at prompt (Some register) = ends_with prompt register
ends_at prompt None = None

-- The effect of a letter after the decimal point.
abbrev pub step_by_letter : Prompt → Meaning → Option PromptStep
step_by_letter prompt (meanings.Letter letter) = ends_at prompt (stack_register letter)
step_by_letter prompt other = None

-- The effect of a key after the decimal point: the letter of a stack register is expected.
abbrev pub with_stack_typed : Prompt → (plain letter : Meaning) → Option PromptStep
-- IND is added or removed if the stack can be named without it, too.
with_stack_typed prompt meanings.Shift letter =
    if (prompt_row prompt.function).registers then turns_indirect prompt else None
with_stack_typed prompt meanings.Back letter = goes_on prompt typed.Nothing
with_stack_typed prompt other letter = step_by_letter prompt letter

-- The effect of a key after GTO .
abbrev pub with_point_typed : Prompt → Meaning → Option PromptStep
with_point_typed prompt meanings.Point = Some steps.GoesToEnd
with_point_typed prompt meanings.Back = goes_on prompt typed.Nothing
with_point_typed prompt other = None

-- One more letter of a name, which has at most seven.
abbrev pub name_letter : Prompt → List ℕ → Meaning → Option PromptStep
name_letter prompt name (meanings.Letter letter) =
    if nat_lt (length name) 7 then goes_on prompt (typed.Name (name ++ letter ∷ [])) else None
name_letter prompt name other = None

-- ALPHA ends a name that has a letter.
abbrev pub name_ended : Prompt → List ℕ → Option PromptStep
name_ended prompt [] = None
name_ended prompt name =
    if (prompt_row prompt.function).named then Some (steps.Types (name_line prompt.function name))
    else None

-- BACK deletes the last letter, and cancels the prompt if the name has none.
abbrev pub name_shortened : Prompt → List ℕ → Option PromptStep
name_shortened prompt [] = Some steps.Cancels
name_shortened prompt name = goes_on prompt (typed.Name (without_last name))

-- The effect of a key while a name is typed. After SHIFT, the digits and + - * / . stand for
-- themselves.
abbrev pub with_name_typed : Prompt → List ℕ → (shift : Bool)
    → (plain letter shifted_letter : Meaning) → Option PromptStep
with_name_typed prompt name shift meanings.Alpha letter shifted_letter = name_ended prompt name
with_name_typed prompt name false meanings.Back letter shifted_letter = name_shortened prompt name
with_name_typed prompt name false plain letter shifted_letter = name_letter prompt name letter
with_name_typed prompt name true plain letter shifted_letter =
    name_letter prompt name shifted_letter

-- The effect of a key, given as its row of the keyboard, while a name is typed.
abbrev pub in_name : Prompt → List ℕ → (shift : Bool) → KeyRow → Option PromptStep
in_name prompt name shift row =
    with_name_typed prompt name shift row.plain row.letter row.shifted_letter

-- The effect of a key on a prompt, depending on what is typed.
abbrev pub prompt_step : Prompt → Typed → (shift : Bool) → Key → Option PromptStep
prompt_step prompt typed.Nothing shift key = with_nothing prompt (row_of key).plain
prompt_step prompt (typed.Digit digit) shift key = with_digit_typed prompt digit (row_of key).plain
prompt_step prompt typed.Stack shift key =
    with_stack_typed prompt (row_of key).plain (row_of key).letter
prompt_step prompt typed.Point shift key = with_point_typed prompt (row_of key).plain
prompt_step prompt (typed.Name name) shift key =
    in_name prompt name shift (row_of key)
