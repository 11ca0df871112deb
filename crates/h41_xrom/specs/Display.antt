-- The text of the display. The order of the cases is the Owner's Handbook's.
use Rattle.std.specs.Prelude.{◌≡◌, ℕ, List, [], ◌++◌, codes, MatchBool, if◌then◌else◌, Option, Some}
use Rattle.std.specs.Prelude.{None}
use Rattle.h41_codes.specs.declared.characters.Character.{Character}
use Rattle.h41_codes.specs.declared.line.Line.TheVariants.{Number}
use Rattle.h41_editor.specs.ProgramText.{ShowsProgram}
use Rattle.h41_positions.specs.FocalState.{Machine}
use Rattle.h41_keys.specs.Prompts.{prompt_text}
use Rattle.h41_keys.specs.declared.input.TypedEntry.{TypedEntry}
use Rattle.h41_keys.specs.declared.input.TypedEntry.TheVariants as entries
use Rattle.h41_keys.specs.declared.prompt.Prompt.{Prompt}
use Rattle.h41_lines.specs.Characters.{characters_text}
use Rattle.h41_pages.specs.PageMap.{PageMap}
use Rattle.h41_ram.specs.NamedFlags.{alpha_mode}
use Rattle.h41_ram.specs.NamedRegisters.{status_of}
use Rattle.h41_ram.specs.RegisterMap.{RegisterMap, flag_of}
use Rattle.h41_ram.specs.declared.status.StatusRegister.TheVariants.{X}
use Rattle.h41_show.specs.DisplayFormat.{format_of}
use Rattle.h41_show.specs.RegisterText.{alpha_text, register_text}
use Rattle.h41_text.specs.LineText.{line_text}
use Rattle.h41_xrom.specs.Calculator.{CalculatorState, machine_of}

-- The cursor, which is shown after a number or a line that is being typed.
abbrev pub cursor : List ℕ
cursor = codes "_"

-- A number that is being typed is shown as the line that it would be, with the cursor.
abbrev pub typed_number : List Character → List ℕ
typed_number text = line_text (Number text) ++ cursor

-- The number that is being typed, otherwise X in the display format.
abbrev pub x_text : RegisterMap → TypedEntry → List ℕ
x_text memory (entries.Number text) = typed_number text
x_text memory entry = register_text (format_of memory) (status_of memory X)

-- ALPHA if flag 48 is set, otherwise the number or X.
abbrev pub entry_text : RegisterMap → TypedEntry → List ℕ
entry_text memory entry =
    if flag_of memory alpha_mode then alpha_text memory else x_text memory entry

-- The cursor is shown if a number or a text line is being typed.
abbrev pub cursor_of : TypedEntry → List ℕ
cursor_of (entries.Number text) = cursor
cursor_of (entries.TextLine text) = cursor
cursor_of entry = []

-- The line in program mode, with the cursor.
abbrev pub ShowsShownLine : PageMap → Machine → TypedEntry → List ℕ → Type 0
ShowsShownLine pages machine entry text =
    (shown : List ℕ) × ShowsProgram pages machine shown × (text ≡ shown ++ cursor_of entry)

-- In program mode the line is shown, otherwise ALPHA, the number or X.
abbrev pub ShowsEntry : CalculatorState → List ℕ → Type 0
ShowsEntry s text =
    MatchBool s.input.program_mode
    (ShowsShownLine s.nut.pages (machine_of s) s.input.entry text)
    (text ≡ entry_text s.nut.ram s.input.entry)

-- The function that waits for its parameter, as characters.
abbrev pub shown_prompt : Prompt → List ℕ
shown_prompt prompt = characters_text (prompt_text prompt)

-- A prompt is shown before the line, ALPHA or X.
abbrev pub ShowsPrompt : CalculatorState → Option Prompt → List ℕ → Type 0
ShowsPrompt s (Some prompt) text = text ≡ shown_prompt prompt
ShowsPrompt s None text = ShowsEntry s text

-- The message is shown before a prompt.
abbrev pub ShowsMessage : CalculatorState → Option (List ℕ) → List ℕ → Type 0
ShowsMessage s (Some message) text = text ≡ message
ShowsMessage s None text = ShowsPrompt s s.input.prompt text

-- The first of these that applies: nothing while the display is off, the message, a prompt, in
-- program mode the line, ALPHA if flag 48 is set, the number that is being typed, otherwise X in
-- the display format.
abbrev pub ShowsDisplay : CalculatorState → List ℕ → Type 0
ShowsDisplay s text = MatchBool s.nut.processor.display (ShowsMessage s s.message text) (text ≡ [])
