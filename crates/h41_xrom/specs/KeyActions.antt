-- What a key does to the calculator. The keyboard (h41_keys) defines what a key means; this file
-- defines how memory, position, stack, ALPHA, display and mode change. The order of refusals, and
-- that a refused key changes nothing, is this project's choice.
use Rattle.std.specs.Prelude.{◌≡◌, ℕ, Bool, true, false, not, ◌&&◌, ◌||◌, is_some, List, [], ◌∷◌}
use Rattle.std.specs.Prelude.{◌++◌, take, MatchBool, MatchOption, if◌then◌else◌, Option, Some, None}
use Rattle.std.specs.Prelude.{Result, Ok, Err}
use Rattle.std.specs.Bool.{then_some}
use Rattle.std.specs.Result.{result_unwrap_or}
use Rattle.h41_codes.specs.declared.characters.Character.{Character}
use Rattle.h41_codes.specs.declared.functions.Function.{Function}
use Rattle.h41_codes.specs.declared.functions.Function.TheVariants.{ClearX}
use Rattle.h41_codes.specs.declared.functions.NameFunction.TheVariants.{ExecuteName}
use Rattle.h41_codes.specs.declared.line.Line.{Line}
use Rattle.h41_codes.specs.declared.line.Line.TheVariants as lines
use Rattle.h41_editor.specs.Changes.{Deletes, Inserts, Replaces}
use Rattle.h41_editor.specs.Moves.{GoesToEnd, ShowsBefore, ShowsNext}
use Rattle.h41_positions.specs.FocalState.{Machine}
use Rattle.h41_focal.specs.LineStep.{Left, left_done}
use Rattle.h41_focal.specs.Outcomes.{Answer}
use Rattle.h41_focal.specs.Outcomes as answers
use Rattle.h41_focal.specs.OutsideCalls as sources
use Rattle.h41_focal.specs.OutsideCalls.{CarriesLine, IsNamed, LineSource}
use Rattle.h41_focal.specs.declared.refusal.FocalRefusal.{FocalRefusal}
use Rattle.h41_keys.specs.Keyboard.{code_of}
use Rattle.h41_keys.specs.KeyPress.{presses}
use Rattle.h41_keys.specs.declared.action.Action.{Action}
use Rattle.h41_keys.specs.declared.action.Action.TheVariants as actions
use Rattle.h41_keys.specs.declared.input.Flags.{Flags}
use Rattle.h41_keys.specs.declared.input.Input.{Input}
use Rattle.h41_keys.specs.declared.input.Activity as keyboard
use Rattle.h41_keys.specs.declared.input.Activity.TheVariants as waits
use Rattle.h41_keys.specs.declared.input.Place.{Place}
use Rattle.h41_keys.specs.declared.input.Place.TheVariants as places
use Rattle.h41_keys.specs.declared.input.Pressed.{Pressed}
use Rattle.h41_keys.specs.declared.key.Key.{Key}
use Rattle.h41_nut.specs.RegisterWords.{with_display}
use Rattle.h41_pages.specs.FunctionTables.{function_of_name}
use Rattle.h41_pages.specs.PageMap.{PageMap}
use Rattle.h41_positions.specs.Positions.{LineAt}
use Rattle.h41_positions.specs.declared.position.PlacedLine.{PlacedLine}
use Rattle.h41_positions.specs.declared.position.Position.{Position}
use Rattle.h41_positions.specs.declared.position.Position.TheVariants.{Memory, Page}
use Rattle.h41_program.specs.LastProgram.{open_in}
use Rattle.h41_program.specs.Lines.{is_final_end}
use Rattle.h41_program.specs.ProgramLines.{AnswersOf}
use Rattle.h41_program.specs.Searches.{named_in, position_of}
use Rattle.h41_program.specs.declared.refusal.ProgramRefusal.{ProgramRefusal}
use Rattle.h41_ram.specs.NamedFlags.{alpha_entry, alpha_mode, number_entry}
use Rattle.h41_ram.specs.RegisterMap.{RegisterMap, alpha_of, flag_of, is_sound, with_alpha}
use Rattle.h41_ram.specs.RegisterMap.{with_flag}
use Rattle.h41_rows.specs.Places.{X}
use Rattle.h41_rows.specs.RowEffects.{last_24, takes_of, with_taken}
use Rattle.h41_rows.specs.Rows.{coming_in, compute}
use Rattle.h41_rows.specs.Values.{Computes, Written}
use Rattle.h41_xrom.specs.Calculator.{CalculatorState, after_line, is_idle, machine_of, of_line}
use Rattle.h41_xrom.specs.Programs.{Becomes}
use Rattle.h41_xrom.specs.declared.calculator.Mode.{Mode}
use Rattle.h41_xrom.specs.declared.calculator.Mode.TheVariants as modes
use Rattle.h41_xrom.specs.declared.refusal.CalculatorRefusal.{CalculatorRefusal}
use Rattle.h41_xrom.specs.declared.refusal.CalculatorRefusal.TheVariants.{KeyNotHeld, MemoryLost}
use Rattle.h41_xrom.specs.declared.refusal.CalculatorRefusal.TheVariants.{Program}

-- WHAT A KEY'S ACTION LEAVES: memory and the rest of the state that lines work on, and an answer as
-- that of a line. The answer Stopped stops the running program, and Runs starts one.
abbrev pub left_with : Answer → Machine → Left
left_with answer machine = record { machine = machine; answer = answer }

-- A machine with another memory.
abbrev pub with_memory : RegisterMap → Machine → Machine
with_memory memory machine = record machine { memory = memory }

-- A machine with stack lift enabled or disabled.
abbrev pub with_stack_lift : Bool → Machine → Machine
with_stack_lift lift machine = record machine { focal = record machine.focal { lift = lift } }

-- An effect on memory alone.
abbrev pub leaves_memory : RegisterMap → Machine → Result Left CalculatorRefusal
leaves_memory memory machine = Ok (left_done (with_memory memory machine))

-- A LINE is executed: the one at the position by SST, or a typed one.
abbrev pub line_effect : Result Left FocalRefusal → Result Left CalculatorRefusal
line_effect (Ok left) = Ok left
line_effect (Err refusal) = Err (of_line refusal)

-- The effect of executing it.
abbrev pub Carries : LineSource → PageMap → Machine → Result Left CalculatorRefusal → Type 0
Carries source pages machine effect =
    (carried : Result Left FocalRefusal)
    × CarriesLine source pages machine carried
    × (effect ≡ line_effect carried)

-- PROGRAM MODE: what a key leaves after an edit of the program, or a move in it: the changed
-- machine, or the refusal.
abbrev pub edit_effect : Result Machine ProgramRefusal → Result Left CalculatorRefusal
edit_effect (Ok machine) = Ok (left_done machine)
edit_effect (Err refusal) = Err (Program refusal)

-- An edit, or a move, is made.
abbrev pub Edits : (Machine → Result Machine ProgramRefusal → Type 0) → Machine
    → Result Left CalculatorRefusal → Type 0
Edits edit machine effect =
    (edited : Result Machine ProgramRefusal) × edit machine edited × (effect ≡ edit_effect edited)

-- XEQ of a name is stored unchanged if the name is a label in memory; otherwise as the XROM of a
-- module's function; otherwise as a function of the calculator, if one has the name.
abbrev pub StoredFunction : Line → Option Function → Line → Type 0
StoredFunction line (Some function) stored = stored ≡ lines.Plain function
StoredFunction line None stored = stored ≡ line

-- The line for a name that is not a label in memory.
abbrev pub StoredIfNoLabel : Line → List ℕ → Option (ℕ × ℕ) → Line → Type 0
StoredIfNoLabel line name (Some numbers) stored = stored ≡ lines.Module numbers.0 numbers.1
StoredIfNoLabel line name None stored =
    (function : Option Function) × IsNamed name function × StoredFunction line function stored

-- The line for a name, by the label in memory, if there is one.
abbrev pub StoredName : PageMap → Line → List ℕ → Option ℕ → Line → Type 0
StoredName pages line name (Some position) stored = stored ≡ line
StoredName pages line name None stored =
    StoredIfNoLabel line name (function_of_name pages name) stored

-- The line that is stored for a typed one: only XEQ of a name is replaced.
abbrev pub IsStoredAs : PageMap → RegisterMap → Line → Line → Type 0
IsStoredAs pages memory (lines.Named ExecuteName name) stored =
    (label : Option ℕ) × AnswersOf (λ listed. position_of (named_in name listed)) memory 0 label
    × StoredName pages (lines.Named ExecuteName name) name label stored
IsStoredAs pages memory line stored = stored ≡ line

-- A typed line is stored.
abbrev pub StoresLine : PageMap → Line → Machine → Result Left CalculatorRefusal → Type 0
StoresLine pages line machine effect =
    (stored : Line)
    × IsStoredAs pages machine.memory line stored
    × Edits (Inserts pages stored) machine effect

-- A NUMBER that is typed has the value of a number line with these characters. It is put into X
-- with its first character: the stack is lifted if stack lift is enabled, stack lift is enabled
-- afterwards, and flag 22 is set. If its last character was removed, X is zero, and the stack does
-- not lift.
abbrev pub taken_in : RegisterMap → Bool → List ℕ → RegisterMap
taken_in memory lift register =
    with_taken memory 0 register (takes_of (coming_in (compute X)) lift) memory

-- Memory and stack lift after the first character.
abbrev pub with_number_started : Machine → List ℕ → Machine
with_number_started machine register =
    with_stack_lift true (with_memory
    (with_flag (taken_in machine.memory machine.focal.lift register) number_entry true) machine)

-- The first character of a number.
abbrev pub BeginsNumber : List Character → Machine → Result Left CalculatorRefusal → Type 0
BeginsNumber text machine effect =
    (register : List ℕ)
    × Computes (Written text) machine.memory 0 (Ok register)
    × (effect ≡ Ok (left_done (with_number_started machine register)))

-- Memory after a further character: the number in X is replaced.
abbrev pub with_number_changed : Machine → List ℕ → Machine
with_number_changed machine register = with_memory (taken_in machine.memory false register) machine

-- A further character of a number, or one that is removed.
abbrev pub ChangesNumber : List Character → Machine → Result Left CalculatorRefusal → Type 0
ChangesNumber text machine effect =
    (register : List ℕ)
    × Computes (Written text) machine.memory 0 (Ok register)
    × (effect ≡ Ok (left_done (with_number_changed machine register)))

-- ALPHA: its 24 bytes end with the text, after nulls.
abbrev pub with_text : RegisterMap → List ℕ → RegisterMap
with_text memory characters = with_alpha memory (last_24 characters)

-- Letters also set flag 23.
abbrev pub with_letters : RegisterMap → List ℕ → RegisterMap
with_letters memory characters = with_flag (with_text memory characters) alpha_entry true

-- Flag 48 is toggled.
abbrev pub with_alpha_toggled : RegisterMap → RegisterMap
with_alpha_toggled memory = with_flag memory alpha_mode (not (flag_of memory alpha_mode))

-- EACH ACTION, and whether program mode is on, in which lines are stored.
abbrev pub Acts : PageMap → (program_mode : Bool) → Action → Machine
    → Result Left CalculatorRefusal → Type 0
Acts pages program_mode actions.Nothing machine effect = effect ≡ Ok (left_done machine)
Acts pages program_mode actions.Stop machine effect =
    effect ≡ Ok (left_with answers.Stopped machine)
Acts pages program_mode actions.Run machine effect =
    effect ≡ Ok (left_with answers.Runs machine)
-- SST executes a line; in program mode it shows the next one.
Acts pages program_mode actions.Step machine effect =
    MatchBool program_mode (Edits (ShowsNext pages) machine effect)
    (Carries sources.Program pages machine effect)
Acts pages program_mode actions.StepBack machine effect =
    Edits (ShowsBefore pages) machine effect
Acts pages program_mode actions.GoToEnd machine effect = Edits GoesToEnd machine effect
Acts pages program_mode (actions.CarryOut line) machine effect =
    Carries (sources.Keys line) pages machine effect
Acts pages program_mode (actions.Insert line) machine effect = StoresLine pages line machine effect
Acts pages program_mode (actions.Replace line) machine effect = Edits (Replaces line) machine effect
Acts pages program_mode actions.Delete machine effect = Edits (Deletes pages) machine effect
Acts pages program_mode (actions.BeginNumber text) machine effect = BeginsNumber text machine effect
Acts pages program_mode (actions.ChangeNumber text) machine effect =
    ChangesNumber text machine effect
Acts pages program_mode actions.EndNumber machine effect =
    Carries (sources.Keys (lines.Plain ClearX)) pages machine effect
Acts pages program_mode actions.ToggleAlpha machine effect =
    effect ≡ leaves_memory (with_alpha_toggled machine.memory) machine
Acts pages program_mode (actions.BeginText letter) machine effect =
    effect ≡ leaves_memory (with_letters machine.memory (letter ∷ [])) machine
Acts pages program_mode (actions.AddLetter letter) machine effect =
    effect
    ≡ leaves_memory (with_letters machine.memory (alpha_of machine.memory ++ letter ∷ [])) machine
Acts pages program_mode actions.TakeLetter machine effect =
    effect ≡ leaves_memory (with_text machine.memory (take 23 (alpha_of machine.memory))) machine
Acts pages program_mode actions.ClearAlpha machine effect =
    effect ≡ leaves_memory (with_text machine.memory []) machine

-- A KEY. What runs, in the keyboard's terms; it decides what a key means.
abbrev pub activity_of : Mode → keyboard.Activity
activity_of modes.Idle = waits.Idle
activity_of modes.Run = waits.Run
activity_of (modes.Micro caller) = waits.Micro

-- In a page, whose lines cannot be changed, BACK does nothing at line 00 and at .END. Memory that
-- is not sound has no lines, so no .END. is shown then.
abbrev pub is_final : Result PlacedLine ProgramRefusal → Bool
is_final (Ok first) = is_final_end first.line
is_final (Err refusal) = false

-- GTO . . puts an END into memory if the last program has lines and no END of its own. If memory is
-- not sound, or its chain of labels and ENDs does not reach .END., it puts none; the key is then
-- refused as elsewhere.
abbrev pub puts_end : Result Bool ProgramRefusal → Bool
puts_end last = result_unwrap_or last false

-- Where the shown line is, in the keyboard's terms.
abbrev pub IsPlace : PageMap → Machine → Position → Place → Type 0
IsPlace pages machine (Memory byte) place = place ≡ places.Memory
IsPlace pages machine (Page address) place =
    (first : Result PlacedLine ProgramRefusal)
    × (last : Result Bool ProgramRefusal)
    × LineAt pages machine.memory (Page address) first
    × AnswersOf open_in machine.memory 0 last
    × (place
    ≡ places.Page
    (machine.focal.at_line_00 || (is_sound machine.memory && is_final first))
    (puts_end last))

-- The rest of the state that decides what a key means.
abbrev pub flags_at : Place → CalculatorState → Flags
flags_at place s =
    record { alpha = flag_of s.nut.ram alpha_mode; message = is_some s.message; place = place }

-- The calculator has these flags.
abbrev pub HasFlags : CalculatorState → Flags → Type 0
HasFlags s flags =
    (place : Place)
    × IsPlace s.nut.pages (machine_of s) s.focal.position place
    × (flags ≡ flags_at place s)

-- What the keyboard returns for a key.
abbrev pub press_of : CalculatorState → Key → Flags → Option Pressed
press_of s key flags = presses s.input key (activity_of s.mode) flags

-- An accepted key stores its code, sets the key flag and turns the display on; while nothing runs,
-- it removes the message.
abbrev pub message_after_key : Mode → Option (List ℕ) → Option (List ℕ)
message_after_key mode message = if is_idle mode then None else message

-- The calculator after that.
abbrev pub with_key_accepted : Key → Input → CalculatorState → CalculatorState
with_key_accepted key input s = record s {
  nut = record s.nut {
    keys = record { ky = code_of key; flag = true };
    processor = with_display true s.nut.processor;
  };
  input = input;
  message = message_after_key s.mode s.message;
}

-- The calculator after what an action leaves, or the refusal of the action.
abbrev pub after_outcome : CalculatorState → Result Left CalculatorRefusal
    → Result CalculatorState CalculatorRefusal
after_outcome s (Ok left) = Ok (after_line s left)
after_outcome s (Err refusal) = Err refusal

-- Why a key that has a meaning is refused before its action: MemoryLost (15) if nothing runs and
-- memory is not sound.
abbrev pub key_refusal : CalculatorState → Option CalculatorRefusal
key_refusal s = then_some (is_idle s.mode && not (is_sound s.nut.ram)) MemoryLost

-- What such a key makes: that refusal, or the result of its action, which may be BrokenProgram
-- (14), NotInProfile (13) or NoRoom (16).
abbrev pub ActionMakes : CalculatorState → Key → Action → Input
    → Result CalculatorState CalculatorRefusal → Type 0
ActionMakes s key action input made =
    MatchOption (key_refusal s)
    ((effect : Result Left CalculatorRefusal)
    × Acts s.nut.pages input.program_mode action (machine_of s) effect
    × (made ≡ after_outcome (with_key_accepted key input s) effect))
    (λ why. made ≡ Err why)

-- A key without a meaning is refused as KeyNotHeld (18).
abbrev pub KeyMakes : CalculatorState → Key → Option Pressed
    → Result CalculatorState CalculatorRefusal → Type 0
KeyMakes s key None made = made ≡ Err KeyNotHeld
KeyMakes s key (Some pressed) made = ActionMakes s key pressed.action pressed.input made

-- A key is accepted, or refused and nothing changes.
abbrev pub Presses : Key → CalculatorState → CalculatorState → Option CalculatorRefusal → Type 0
Presses key s t refusal =
    (flags : Flags)
    × HasFlags s flags
    × (made : Result CalculatorState CalculatorRefusal)
    × KeyMakes s key (press_of s key flags) made
    × Becomes made s t refusal
