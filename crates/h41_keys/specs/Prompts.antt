-- Prompts: what each function takes as its parameter, and how the display shows the typed part of
-- it.
use Rattle.std.specs.Prelude.{ℕ, ◌+◌, ◌-◌, nat_le, Bool, true, false, ◌&&◌, ◌==◌, List, [], ◌∷◌}
use Rattle.std.specs.Prelude.{◌++◌, Option, Some, None, if◌then◌else◌, codes}
use Rattle.h41_codes.specs.Canon.{canonical_line}
use Rattle.h41_codes.specs.declared.functions.Branch.{Branch}
use Rattle.h41_codes.specs.declared.functions.Branch.TheVariants as branches
use Rattle.h41_codes.specs.declared.functions.NameFunction.TheVariants as namings
use Rattle.h41_codes.specs.declared.functions.ParameterFunction.{ParameterFunction}
use Rattle.h41_codes.specs.declared.functions.ParameterFunction.TheVariants as functions
use Rattle.h41_codes.specs.declared.line.Line.{Line}
use Rattle.h41_codes.specs.declared.line.Line.TheVariants as lines
use Rattle.h41_codes.specs.declared.line.Operand.TheVariants.{Direct, Indirect}
use Rattle.h41_text.specs.Names.{parameter_function_name, branch_name}
use Rattle.h41_keys.specs.NumberTyping.{value_of}
use Rattle.h41_keys.specs.declared.prompt.Prompt.{Prompt}
use Rattle.h41_keys.specs.declared.prompt.PromptFunction.{PromptFunction}
use Rattle.h41_keys.specs.declared.prompt.PromptFunction.TheVariants as prompts
use Rattle.h41_keys.specs.declared.prompt.PromptLines.{PromptLines}
use Rattle.h41_keys.specs.declared.prompt.PromptLines.TheVariants.{Parameter, Branching}
use Rattle.h41_keys.specs.declared.prompt.PromptRow.{PromptRow}
use Rattle.h41_keys.specs.declared.prompt.Typed.{Typed}
use Rattle.h41_keys.specs.declared.prompt.Typed.TheVariants as typed

-- The rows of the table, by what a function works on. A row has its lines, the number of digits of
-- its parameter (after IND, always two), whether IND can precede it, whether it works on registers,
-- so that those of the stack can be named without IND, and whether it takes a name.

-- The row of a function on registers.
abbrev pub register : ParameterFunction → PromptRow
register function =
    record {
      lines = Parameter function;
      digits = 2;
      indirect = true;
      registers = true;
      named = false;
    }

-- The row of a function on flags.
abbrev pub flag : ParameterFunction → PromptRow
flag function =
    record {
      lines = Parameter function;
      digits = 2;
      indirect = true;
      registers = false;
      named = false;
    }

-- The row of a function whose parameter is a number of display digits.
abbrev pub format : ParameterFunction → PromptRow
format function =
    record {
      lines = Parameter function;
      digits = 1;
      indirect = true;
      registers = false;
      named = false;
    }

-- The row of a function that goes to a label or executes it.
abbrev pub branch_row : Branch → PromptRow
branch_row branch =
    record {
      lines = Branching branch;
      digits = 2;
      indirect = true;
      registers = false;
      named = true;
    }

-- The table: the row of each function.
abbrev pub prompt_row : PromptFunction → PromptRow
prompt_row prompts.Execute = branch_row branches.Execute
prompt_row prompts.GoTo = branch_row branches.GoTo
prompt_row prompts.Label =
    record {
      lines = Parameter functions.Label;
      digits = 2;
      indirect = false;
      registers = false;
      named = true;
    }
prompt_row prompts.Store = register functions.Store
prompt_row prompts.StoreAdd = register functions.StoreAdd
prompt_row prompts.StoreSubtract = register functions.StoreSubtract
prompt_row prompts.StoreMultiply = register functions.StoreMultiply
prompt_row prompts.StoreDivide = register functions.StoreDivide
prompt_row prompts.Recall = register functions.Recall
prompt_row prompts.IncrementSkip = register functions.IncrementSkip
prompt_row prompts.View = register functions.View
prompt_row prompts.StoreAlpha = register functions.StoreAlpha
prompt_row prompts.RecallAlpha = register functions.RecallAlpha
prompt_row prompts.SetFlag = flag functions.SetFlag
prompt_row prompts.ClearFlag = flag functions.ClearFlag
prompt_row prompts.TestSet = flag functions.TestSet
prompt_row prompts.Fixed = format functions.Fixed
prompt_row prompts.Scientific = format functions.Scientific
prompt_row prompts.Engineering = format functions.Engineering

-- The name of the lines, as in a listing.
abbrev pub lines_name : PromptLines → List ℕ
lines_name (Parameter function) = parameter_function_name function
lines_name (Branching branch) = branch_name branch

-- The name of a function in a prompt: that of its lines.
abbrev pub prompt_name : PromptFunction → List ℕ
prompt_name function = lines_name (prompt_row function).lines

-- The number of digits of the parameter.
abbrev pub digits_wanted : PromptFunction → Bool → ℕ
digits_wanted function true = 2
digits_wanted function false = (prompt_row function).digits

-- Whether the decimal point begins the name of a stack register.
abbrev pub takes_stack : PromptFunction → Bool → Bool
takes_stack function true = true
takes_stack function false = (prompt_row function).registers

-- The line with a parameter, in its shortest form.
abbrev pub line_with : PromptLines → Bool → ℕ → Line
line_with (Parameter function) false parameter =
    canonical_line (lines.WithOperand function (Direct parameter))
line_with (Parameter function) true parameter =
    canonical_line (lines.WithOperand function (Indirect parameter))
line_with (Branching branch) false parameter =
    canonical_line (lines.BranchTo branch 0 false parameter)
line_with (Branching branch) true parameter = lines.BranchIndirect branch parameter

-- The line of a function with a parameter.
abbrev pub parameter_line : PromptFunction → Bool → ℕ → Line
parameter_line function indirect parameter =
    line_with (prompt_row function).lines indirect parameter

-- Whether a letter is A to J: it is then a local label.
abbrev pub is_local_letter : ℕ → Bool
is_local_letter letter = nat_le 0x41 letter && nat_le letter 0x4A

-- The number of a local label: A is 102.
abbrev pub local_label : ℕ → ℕ
local_label letter = 102 + (letter - 0x41)

-- The line with any other name. Of the functions with a parameter, only LBL has one.
abbrev pub line_naming : PromptLines → List ℕ → Line
line_naming (Parameter function) name = lines.GlobalLabel 0 0 name
line_naming (Branching branches.GoTo) name = lines.Named namings.GoToName name
line_naming (Branching branches.Execute) name = lines.Named namings.ExecuteName name

-- The line of a function with a name.
abbrev pub name_line : PromptFunction → List ℕ → Line
name_line function (letter ∷ []) =
    if is_local_letter letter then parameter_line function false (local_label letter)
    else line_naming (prompt_row function).lines (letter ∷ [])
name_line function name = line_naming (prompt_row function).lines name

-- The number of the stack register with a letter.
abbrev pub stack_register : ℕ → Option ℕ
stack_register letter =
    if letter == 0x54 then Some 112
    else if letter == 0x5A then Some 113
    else if letter == 0x59 then Some 114
    else if letter == 0x58 then Some 115
    else if letter == 0x4C then Some 116
    else None

-- The typed part of the parameter, as the display shows it.
abbrev pub typed_text : PromptFunction → Bool → Typed → List ℕ
typed_text function indirect typed.Nothing =
    if digits_wanted function indirect == 1 then codes " _" else codes " __"
typed_text function indirect (typed.Digit digit) = 0x20 ∷ (0x30 + value_of digit) ∷ 0x5F ∷ []
typed_text function indirect typed.Stack = codes " ST _"
typed_text function indirect typed.Point = codes " ._"
typed_text function indirect (typed.Name name) = 0x20 ∷ 0x22 ∷ (name ++ 0x5F ∷ [])

-- A prompt, as the display shows it.
abbrev pub prompt_text : Prompt → List ℕ
prompt_text prompt =
    prompt_name prompt.function
    ++ (if prompt.indirect then codes " IND" else [])
    ++ typed_text prompt.function prompt.indirect prompt.typed
