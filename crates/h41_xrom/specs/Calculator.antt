-- The calculator: its state, its mode, a call, pages, and single steps. All of it is this project's
-- choice, except what words, lines and keys do.
use Rattle.std.specs.Prelude.{◌≡◌, ℕ, Bool, true, false, not, nat_lt, ◌==◌, if◌then◌else◌, Option}
use Rattle.std.specs.Prelude.{None, List, length, option_map, Result, Ok}
use Rattle.std.specs.Bool.{then_some}
use Rattle.std.specs.Option.{option_or}
use Rattle.std.specs.Result.{result_err}
use Rattle.h41_nut.specs.declared.refusal.WordRefusal.TheVariants as words
use Rattle.h41_pages.specs.declared.refusal.PlugRefusal.{PlugRefusal}
use Rattle.h41_positions.specs.FocalState as focal
use Rattle.h41_positions.specs.FocalState.{FocalState, Machine}
use Rattle.h41_focal.specs.Outcomes.{Answer}
use Rattle.h41_focal.specs.Outcomes as answers
use Rattle.h41_focal.specs.LineStep.{Left}
use Rattle.h41_focal.specs.OutsideCalls as sources
use Rattle.h41_focal.specs.OutsideCalls.{CarriesLine, LineSource}
use Rattle.h41_focal.specs.declared.refusal.FocalRefusal.{FocalRefusal}
use Rattle.h41_focal.specs.declared.refusal.FocalRefusal.TheVariants as lines
use Rattle.h41_keys.specs.KeyPress as keyboard
use Rattle.h41_keys.specs.declared.input.TypedEntry.TheVariants as entries
use Rattle.h41_keys.specs.declared.input.Input.{Input}
use Rattle.h41_program.specs.declared.refusal.ProgramRefusal.TheVariants as program
use Rattle.h41_ram.specs.RegisterMap as ram
use Rattle.h41_nut.specs.Processor.{initial_state, at_function}
use Rattle.h41_nut.specs.Addresses.{end_of_function}
use Rattle.h41_nut.specs.declared.keys.Keys.{Keys}
use Rattle.h41_pages.specs.Addresses.{first_address}
use Rattle.h41_pages.specs.PageMap as pages
use Rattle.h41_nut.specs.WordStep.{Nut, nut_of, refused, Micro}
use Rattle.h41_xrom.specs.declared.calculator.Caller.{Caller}
use Rattle.h41_xrom.specs.declared.calculator.Caller.TheVariants as callers
use Rattle.h41_xrom.specs.declared.calculator.Mode.{Mode}
use Rattle.h41_xrom.specs.declared.calculator.Mode.TheVariants as modes
use Rattle.h41_xrom.specs.declared.refusal.CalculatorRefusal.{CalculatorRefusal}
use Rattle.h41_xrom.specs.declared.refusal.CalculatorRefusal.TheVariants.{Busy, MemoryLost}
use Rattle.h41_xrom.specs.declared.refusal.CalculatorRefusal.TheVariants.{NotInProfile, Program}
use Rattle.h41_xrom.specs.declared.refusal.CalculatorRefusal.TheVariants.{Word}
use Rattle.h41_xrom.specs.Messages.{message_after, processor_after}

-- The state of the calculator.
pub record CalculatorState : Type 0 where
  -- The processor, its memory, pages and keys.
  pub nut : Nut
  -- The state, besides memory, that lines work on.
  pub focal : FocalState
  -- What the keyboard remembers between keys: SHIFT, program mode, a prompt, and the number or text
  -- that is being typed.
  pub input : Input
  -- The message: the text that the display shows before anything else, if there is one.
  pub message : Option (List ℕ)
  -- What the calculator is doing.
  pub mode : Mode

-- No key was pressed.
abbrev pub no_key : Keys
no_key = record { ky = 0; flag = false }

-- The initial state with so many main registers: nothing is plugged, nothing runs, nothing is being
-- typed, there is no message, and memory has an empty program, at whose line 00 the calculator is.
abbrev pub start : ℕ → CalculatorState
start registers = record {
  nut = nut_of initial_state (ram.start registers) pages.no_pages no_key;
  focal = focal.start;
  input = keyboard.start;
  message = None;
  mode = modes.Idle;
}

-- Whether nothing runs.
abbrev pub is_idle : Mode → Bool
is_idle modes.Idle = true
is_idle modes.Run = false
is_idle (modes.Micro caller) = false

-- The caller of a function that starts in this mode.
abbrev pub caller_in : Mode → Caller
caller_in modes.Idle = callers.Nothing
caller_in modes.Run = callers.Program
caller_in (modes.Micro caller) = caller

-- The mode after the function has ended.
abbrev pub mode_of : Caller → Mode
mode_of callers.Nothing = modes.Idle
mode_of callers.Program = modes.Run

-- Why a call is refused: Busy (24) while a program or a function runs, otherwise SystemRom (08)
-- below address 4000. That includes 00F0, because a call is not a jump to the end of a function.
abbrev pub call_refusal : CalculatorState → ℕ → Option CalculatorRefusal
call_refusal s address =
    option_or (then_some (not (is_idle s.mode)) Busy)
    (then_some (nat_lt address first_address) (Word (words.SystemRom address)))

-- The entry of a number or a text has ended. A prompt, SHIFT and program mode remain.
abbrev pub not_typing : CalculatorState → CalculatorState
not_typing s = record s { input = record s.input { entry = entries.Nothing } }

-- The function at an address runs.
abbrev pub with_function : ℕ → CalculatorState → CalculatorState
with_function address s = record s {
  nut = record s.nut { processor = at_function s.nut.processor address };
  mode = modes.Micro (caller_in s.mode);
}

-- The state after a call.
abbrev pub after_call : ℕ → CalculatorState → CalculatorState
after_call address s = with_function address (not_typing s)

-- Why words are not plugged. OutOfMemory (21) is the last reason.
abbrev pub RefusesPage : CalculatorState → ℕ → ℕ → List ℕ → PlugRefusal → Type 0
RefusesPage s page bank words refusal = pages.RefusesPlug s.nut.pages page bank words refusal

-- The bank of the page accepts the words.
abbrev pub TakesPage : CalculatorState → ℕ → ℕ → List ℕ → Type 0
TakesPage s page bank words = pages.plug_refusal s.nut.pages page bank words ≡ None

-- The calculator with other pages.
abbrev pub with_pages : pages.PageMap → CalculatorState → CalculatorState
with_pages all s = record s { nut = record s.nut { pages = all } }

-- The words are plugged into the bank.
abbrev pub with_page : ℕ → ℕ → Bool → List ℕ → CalculatorState → CalculatorState
with_page page bank writable words s =
    with_pages (pages.with_page_image s.nut.pages page bank writable words) s

-- All banks of the page are unplugged.
abbrev pub without_page : ℕ → CalculatorState → CalculatorState
without_page page s = with_pages (pages.without_images s.nut.pages page) s

-- The initial state with as many main registers, except that pages remain plugged. Bank 1 is the
-- active bank of each.
abbrev pub after_reset : CalculatorState → CalculatorState
after_reset s =
    with_pages (pages.with_first_banks s.nut.pages) (start (length s.nut.ram.main))

-- What lines work on, including memory.
abbrev pub machine_of : CalculatorState → Machine
machine_of s = record { memory = s.nut.ram; focal = s.focal }

-- The calculator with the result of a line in its display.
abbrev pub with_shown : Answer → CalculatorState → CalculatorState
with_shown answer s = record s {
  nut = record s.nut { processor = processor_after answer s.nut.processor };
  message = message_after answer s.message;
}

-- The calculator with another memory, and other state that lines work on.
abbrev pub with_machine : Machine → CalculatorState → CalculatorState
with_machine machine s =
    record s { nut = record s.nut { ram = machine.memory }; focal = machine.focal }

-- A running program stops at STOP, OFF, PROMPT, a return with an empty return stack, and an error.
-- A typed line that jumped to a label, or called a module's program, starts the program.
abbrev pub mode_after : Answer → Mode → Mode
mode_after answers.Stopped mode = modes.Idle
mode_after answers.TurnedOff mode = modes.Idle
mode_after (answers.Prompted text) mode = modes.Idle
mode_after (answers.Failed fault) mode = modes.Idle
mode_after answers.Runs mode = modes.Run
mode_after answer mode = mode

-- The calculator after the answer of a line: it is shown, and a program continues, stops or starts.
abbrev pub with_answer : Answer → CalculatorState → CalculatorState
with_answer answer s = record (with_shown answer s) { mode = mode_after answer s.mode }

-- The calculator after the answer of a line, which may also start a module's function in
-- microcode.
abbrev pub after_answer : Answer → CalculatorState → CalculatorState
after_answer (answers.Begins address) s = with_function address s
after_answer answer s = with_answer answer s

-- The calculator after a line was executed.
abbrev pub after_line : CalculatorState → Left → CalculatorState
after_line s left = after_answer left.answer (with_machine left.machine s)

-- The refusal of a line, as the calculator's.
abbrev pub of_line : FocalRefusal → CalculatorRefusal
of_line lines.MemoryLost = MemoryLost
of_line lines.BrokenProgram = Program program.BrokenProgram
of_line lines.NotInProfile = NotInProfile

-- One line is executed with all that it calls, or refused.
abbrev pub CarriesHere : LineSource → CalculatorState → Result Left FocalRefusal → Type 0
CarriesHere source s carried = CarriesLine source s.nut.pages (machine_of s) carried

-- Why the step of a line is refused, or that it is not.
abbrev pub RefusesLine : CalculatorState → Option CalculatorRefusal → Type 0
RefusesLine s why =
    (carried : Result Left FocalRefusal)
    × CarriesHere sources.Program s carried
    × (why ≡ option_map of_line (result_err carried))

-- Why a step in a mode is refused, or that it is not: while a function runs, the step is a word,
-- otherwise a line.
abbrev pub RefusesStepIn : Mode → CalculatorState → Option CalculatorRefusal → Type 0
RefusesStepIn modes.Idle s why = RefusesLine s why
RefusesStepIn modes.Run s why = RefusesLine s why
RefusesStepIn (modes.Micro caller) s why = why ≡ option_map Word (refused s.nut)

-- Why a step is refused, or that it is not.
abbrev pub RefusesStep : CalculatorState → Option CalculatorRefusal → Type 0
RefusesStep s why = RefusesStepIn s.mode s why

-- A function ends when the next address is 00F0; its caller continues.
abbrev pub mode_at : ℕ → Caller → Mode
mode_at address caller = if address == end_of_function then mode_of caller else modes.Micro caller

-- The mode after a word, by whether the function still runs.
abbrev pub mode_after_word : Bool → Caller → Mode
mode_after_word runs caller = if runs then modes.Micro caller else mode_of caller

-- Stack lift is enabled when a function ends.
abbrev pub stack_lift_at : ℕ → Bool → Bool
stack_lift_at address lift = if address == end_of_function then true else lift

-- The calculator after a word was executed.
abbrev pub after_word : Caller → CalculatorState → Nut → CalculatorState
after_word caller s nut = record s {
  nut = nut;
  focal = record s.focal { lift = stack_lift_at nut.processor.pc s.focal.lift };
  mode = mode_at nut.processor.pc caller;
}

-- The step of a line, which also ends the entry of a number or a text.
abbrev pub StepsByLine : CalculatorState → CalculatorState → Type 0
StepsByLine s t =
    (left : Left)
    × CarriesHere sources.Program s (Ok left)
    × (t ≡ after_line (not_typing s) left)

-- One step in a mode: a word while a function runs, otherwise a line.
abbrev pub StepIn : Mode → CalculatorState → CalculatorState → Type 0
StepIn modes.Idle s t = StepsByLine s t
StepIn modes.Run s t = StepsByLine s t
StepIn (modes.Micro caller) s t = Micro s.nut t.nut × (t ≡ after_word caller s t.nut)

-- One step.
abbrev pub Step : CalculatorState → CalculatorState → Type 0
Step s t = StepIn s.mode s t
