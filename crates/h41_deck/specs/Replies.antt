-- What each command does to the bench, and what it answers. The language is this project's own.
use Rattle.std.specs.Bool.{then_some}
use Rattle.std.specs.Prelude.{◌≡◌, ℕ, Bool, true, false, List, Option, Some, None, Result, Ok, Err}
use Rattle.std.specs.Prelude.{option_map}
use Rattle.h41_breakpoints.specs.Breakpoints.{lacks_breakpoint, refuses_breakpoint}
use Rattle.h41_breakpoints.specs.declared.location.Location.{Location}
use Rattle.h41_commands.specs.declared.commands.PageKind.{PageKind}
use Rattle.h41_commands.specs.declared.commands.ProgramKind.{ProgramKind}
use Rattle.h41_commands.specs.declared.commands.Command.{Command}
use Rattle.h41_commands.specs.declared.commands.Command.TheVariants.{Plug, Load, Unplug, Size}
use Rattle.h41_commands.specs.declared.commands.Command.TheVariants.{Reset, Call, Key, Step, Run}
use Rattle.h41_commands.specs.declared.commands.Command.TheVariants.{Trace, Break, Unbreak, Show}
use Rattle.h41_commands.specs.declared.commands.Command.TheVariants as commands
use Rattle.h41_commands.specs.declared.commands.View.{View}
use Rattle.h41_commands.specs.declared.commands.View.TheVariants as views
use Rattle.h41_commands.specs.declared.refusal.LineRefusal.{LineRefusal}
use Rattle.h41_commands.specs.Blocks.{page_of_words}
use Rattle.h41_commands.specs.Items.{Spelled}
use Rattle.h41_commands.specs.PageBlocks.{Fills}
use Rattle.h41_commands.specs.ProgramBlocks.{Means}
use Rattle.h41_debug.specs.Bench.{BenchState, PressesInTurn, Steps, with_calculator, with_set}
use Rattle.h41_debug.specs.Bench.{without_set}
use Rattle.h41_debug.specs.Run as runs
use Rattle.h41_debug.specs.Traces.{Traces}
use Rattle.h41_debug.specs.declared.run.Stop.{Stop}
use Rattle.h41_xrom.specs.declared.refusal.CalculatorRefusal.{CalculatorRefusal}
use Rattle.h41_xrom.specs.Calculator.{CalculatorState, with_page, without_page, after_reset}
use Rattle.h41_xrom.specs.Calculator.{call_refusal, after_call}
use Rattle.h41_xrom.specs.Programs.{Becomes, Loads, size_makes}
use Rattle.h41_refusals.specs.declared.refusal.Refusal.{Refusal}
use Rattle.h41_refusals.specs.declared.refusal.Refusal.TheVariants.{BreakFull, Calculator, Line}
use Rattle.h41_refusals.specs.declared.refusal.Refusal.TheVariants.{NoBreak}
use Rattle.h41_deck.specs.Answers.{Answer, ends_by, says_and_ends, says_or_ends}
use Rattle.h41_deck.specs.Listings.{listing_at}
use Rattle.h41_refusals.specs.Pages.{page_refusal, unplug_refusal}
use Rattle.h41_deck.specs.Runs.{run_answer}
use Rattle.h41_deck.specs.Views.{Shows}

-- The state after a change that is made unless there is a refusal.
abbrev pub state_unless : Option Refusal → BenchState → BenchState → BenchState
state_unless None changed s = changed
state_unless (Some refusal) changed s = s

-- The change is made and nothing is printed, or there is a refusal and nothing changes.
abbrev pub ChangesUnless : Option Refusal → BenchState → BenchState → BenchState → Answer → Type 0
ChangesUnless refusal changed s t answer =
    (t ≡ state_unless refusal changed s) × (answer ≡ ends_by refusal)

-- The lines are refused, and nothing changes.
abbrev pub RefusesLines : LineRefusal → BenchState → BenchState → Answer → Type 0
RefusesLines refusal s t answer = (t ≡ s) × (answer ≡ ends_by (Some (Line refusal)))

-- A call changes only the calculator, or is refused.
abbrev pub Calls : (CalculatorState → CalculatorState → Option CalculatorRefusal → Type 0)
    → BenchState → BenchState → Answer → Type 0
Calls does s t answer =
    (refusal : Option CalculatorRefusal) × does s.calculator t.calculator refusal
    × (t ≡ with_calculator t.calculator s) × (answer ≡ ends_by (option_map Calculator refusal))

-- Why the words of a block are not plugged into the bank of a page.
abbrev pub block_refusal : BenchState → ℕ → ℕ → List ℕ → Option Refusal
block_refusal s page bank words =
    page_refusal s.calculator.nut.pages page bank (page_of_words words)

-- The bench with these words plugged there.
abbrev pub with_words : ℕ → ℕ → Bool → List ℕ → BenchState → BenchState
with_words page bank writable words s =
    with_calculator (with_page page bank writable (page_of_words words) s.calculator) s

-- The bank of a page is plugged with these words, filled with 000, or this is refused as NoSuchPage
-- (01) or Occupied (02). If there are no words, nothing changes.
abbrev pub PlugsWords : ℕ → ℕ → Bool → Result (List ℕ) LineRefusal → BenchState → BenchState
    → Answer → Type 0
PlugsWords page bank writable (Ok words) s t answer =
    ChangesUnless (block_refusal s page bank words) (with_words page bank writable words s)
    s t answer
PlugsWords page bank writable (Err refusal) s t answer = RefusesLines refusal s t answer

-- The bank of a page is plugged with the words that a block's values define, or this is refused.
abbrev pub Plugs : PageKind → ℕ → ℕ → Bool → List ℕ → BenchState → BenchState → Answer → Type 0
Plugs kind page bank writable values s t answer =
    (words : Result (List ℕ) LineRefusal)
    × Fills kind page values words
    × PlugsWords page bank writable words s t answer

-- Bytes are loaded, or refused. If a block defines none, nothing changes.
abbrev pub LoadsBytes : Result (List ℕ) LineRefusal → BenchState → BenchState → Answer → Type 0
LoadsBytes (Ok bytes) s t answer = Calls (Loads bytes) s t answer
LoadsBytes (Err refusal) s t answer = RefusesLines refusal s t answer

-- The bytes that a block's values mean are loaded, or refused.
abbrev pub LoadsBlock : ProgramKind → List ℕ → BenchState → BenchState → Answer → Type 0
LoadsBlock kind values s t answer =
    (bytes : Result (List ℕ) LineRefusal) × Means kind values bytes × LoadsBytes bytes s t answer

-- Why a breakpoint is not set.
abbrev pub set_refusal : BenchState → Location → Option Refusal
set_refusal s location = then_some (refuses_breakpoint s.breakpoints location) BreakFull

-- Why a breakpoint is not removed.
abbrev pub unset_refusal : BenchState → Location → Option Refusal
unset_refusal s location = then_some (lacks_breakpoint s.breakpoints location) NoBreak

-- How each command changes the bench from s to t, and its answer. A command with a block has the
-- values of its block.
abbrev pub Reply : Command → List ℕ → BenchState → BenchState → Answer → Type 0
-- words P [bN] [rw], image P [bN] [rw], asm P [bN] [rw] .. end: a bank of the page is plugged with
-- the contents of the block, or this is refused.
Reply (Plug kind page bank writable) values s t answer =
    Plugs kind page bank writable values s t answer
-- load .. end, program .. end: the program of the block is loaded, or refused: BadText (41), Busy
-- (24), MemoryLost (15), BrokenProgram (14), NoRoom (16).
Reply (Load kind) values s t answer = LoadsBlock kind values s t answer
-- unplug P: all banks of the page are unplugged, or NoSuchPage (01) or NotPlugged (03).
Reply (Unplug page) values s t answer =
    ChangesUnless (unplug_refusal s.calculator.nut.pages page)
    (with_calculator (without_page page s.calculator) s) s t answer
-- size n: so many data registers, or Busy (24), MemoryLost (15), SizeTooLarge (17), NoRoom (16).
Reply (Size count) values s t answer = Calls (λ old. Becomes (size_makes old count) old) s t answer
-- reset: the initial state, except that pages stay plugged and breakpoints set.
Reply Reset values s t answer =
    (t ≡ with_calculator (after_reset s.calculator) s) × (answer ≡ ends_by None)
-- call hhhh: the function runs, or Busy (24) or SystemRom (08).
Reply (Call address) values s t answer =
    ChangesUnless (option_map Calculator (call_refusal s.calculator address))
    (with_calculator (after_call address s.calculator) s) s t answer
-- key NAME ..: keys in turn up to the first refusal.
Reply (Key keys) values s t answer =
    (refusal : Option CalculatorRefusal)
    × PressesInTurn keys s t refusal
    × (answer ≡ ends_by (option_map Calculator refusal))
-- step [n]: single steps up to the first refusal.
Reply (Step count) values s t answer =
    (refusal : Option CalculatorRefusal)
    × Steps count s t refusal
    × (answer ≡ ends_by (option_map Calculator refusal))
-- run n: a run of at most so many steps, which prints how many it made and why it stopped, and then
-- the refusal if it stopped for one.
Reply (Run limit) values s t answer =
    (made : ℕ) × (why : Stop) × runs.Run limit s t made why × (answer ≡ run_answer made why)
-- trace n: single steps up to the first refusal, each with its line before it.
Reply (Trace count) values s t answer =
    (lines : List ℕ) × (refusal : Option CalculatorRefusal) × Traces count s t lines refusal
    × (answer ≡ says_and_ends lines (option_map Calculator refusal))
-- break w hhhh, break l n, break p hhhh: the breakpoint is set, or BreakFull (19).
Reply (Break location) values s t answer =
    ChangesUnless (set_refusal s location) (with_set location s) s t answer
-- unbreak w hhhh, unbreak l n, unbreak p hhhh: it is removed, or NoBreak (20).
Reply (Unbreak location) values s t answer =
    ChangesUnless (unset_refusal s location) (without_set location s) s t answer
-- list hhhh n: the listing of the words, or SystemRom (08), EmptyPage (09) or BadImage (04).
-- Nothing changes.
Reply (commands.List address count) values s t answer =
    (t ≡ s) × (answer ≡ says_or_ends (listing_at s.calculator.nut.pages address count))
-- show WHAT: the text of the view, or why it is refused. Nothing changes.
Reply (Show view) values s t answer =
    (t ≡ s) × (made : Result (List ℕ) Refusal) × Shows view s made × (answer ≡ says_or_ends made)

-- What the lines of a command do. Lines that are refused are answered by their refusal.
abbrev pub ItemReply : Spelled → BenchState → BenchState → Answer → Type 0
ItemReply (Err refusal) s t answer = RefusesLines refusal s t answer
ItemReply (Ok given) s t answer = Reply given.0 given.1 s t answer

-- The commands without a block that print nothing but a refusal.
abbrev pub is_silent : Command → Bool
is_silent (Plug kind page bank writable) = false
is_silent (Load kind) = false
is_silent (Run limit) = false
is_silent (Trace count) = false
is_silent (commands.List address count) = false
is_silent (Show view) = false
is_silent command = true

-- The views whose text is allocated. That of the position is written without an allocation.
abbrev pub view_takes_memory : View → Bool
view_takes_memory views.Cpu = true
view_takes_memory (views.Register address) = true
view_takes_memory views.Stack = true
view_takes_memory views.Flags = true
view_takes_memory views.Alpha = true
view_takes_memory views.Display = true
view_takes_memory views.Position = false
view_takes_memory views.Lines = true
view_takes_memory (views.Image page bank) = true
view_takes_memory views.Functions = true

-- The commands that allocate memory. The others never end a deck with OutOfMemory (21).
abbrev pub takes_memory : Command → Bool
takes_memory (Plug kind page bank writable) = true
takes_memory (Load kind) = true
takes_memory (Unplug page) = false
takes_memory (Size count) = false
takes_memory Reset = false
takes_memory (Call address) = false
takes_memory (Key keys) = false
takes_memory (Step count) = false
takes_memory (Run limit) = false
takes_memory (Trace count) = false
takes_memory (Break location) = false
takes_memory (Unbreak location) = false
takes_memory (commands.List address count) = true
takes_memory (Show view) = view_takes_memory view

-- Whether lines specify such a command.
abbrev pub item_takes_memory : Spelled → Bool
item_takes_memory (Ok given) = takes_memory given.0
item_takes_memory (Err refusal) = false
