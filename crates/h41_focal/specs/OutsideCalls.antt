-- The execution of a line with all that it calls. Outside program memory, a line can call a
-- function of a module, by its numbers or by its name, or a function of the calculator, by its
-- name. Modules are searched before the calculator's own functions.
use Rattle.std.specs.Prelude.{◌≡◌, ℕ, Bool, true, false, ◌||◌, if◌then◌else◌, List, MatchBool}
use Rattle.std.specs.Prelude.{Option, Some, None, Result, Ok, Err}
use Rattle.h41_codes.specs.declared.functions.Function.{Function}
use Rattle.h41_codes.specs.declared.line.Line.{Line}
use Rattle.h41_codes.specs.declared.line.Line.TheVariants.{Plain}
use Rattle.h41_focal.specs.Destinations.{Manner, Stepped, Typed, with_return}
use Rattle.h41_focal.specs.LineStep.{Left, Stands, TakesLine, left_by_fault, left_done}
use Rattle.h41_focal.specs.LineStep.{with_program_run}
use Rattle.h41_focal.specs.Outcomes.{Answer, Begins, Calls, Runs, Seeks}
use Rattle.h41_focal.specs.declared.refusal.FocalRefusal.{FocalRefusal}
use Rattle.h41_focal.specs.declared.refusal.FocalRefusal.TheVariants.{MemoryLost}
use Rattle.h41_pages.specs.FunctionTables.{entry_at, function_of_name}
use Rattle.h41_pages.specs.PageMap.{PageMap}
use Rattle.h41_pages.specs.declared.functions.Entry.{Entry}
use Rattle.h41_positions.specs.FocalState.{Machine, at_line, with_returns}
use Rattle.h41_positions.specs.declared.position.Position.{Position}
use Rattle.h41_positions.specs.declared.position.Position.TheVariants.{Page}
use Rattle.h41_ram.specs.RegisterMap.{is_sound}
use Rattle.h41_rows.specs.declared.fault.LineFault.TheVariants.{Nonexistent}
use Rattle.h41_text.specs.Names.{function_name}

-- Where a line that is executed comes from.
pub data LineSource : Type 0 where
  -- the line at the position
  Program : LineSource
  -- this line was typed
  Keys : Line → LineSource

-- The machine after a line that calls a function of a module, before this function is executed: a
-- program has moved to the next line, and stack lift is on if the line turns it on. A typed line
-- has changed nothing.
abbrev pub with_line_passed : Manner → (lifts : Bool) → Machine → Machine
with_line_passed (Stepped next) lifts machine =
    at_line next
    (record machine { focal = record machine.focal { lift = lifts || machine.focal.lift } })
with_line_passed Typed lifts machine = machine

-- A program of a module is called like one in memory: execution continues at its start, the next
-- line is put on the return stack, and the mode is unchanged. A typed line starts the program with
-- an empty return stack.
abbrev pub left_in_program : Manner → (lifts : Bool) → (start : Position) → Machine → Left
left_in_program (Stepped next) lifts start machine =
    left_done
    (at_line start
    (with_returns (with_return machine.focal.returns next)
    (with_line_passed (Stepped next) lifts machine)))
left_in_program Typed lifts start machine =
    record { machine = with_program_run start machine; answer = Runs }

-- A function of a module in microcode starts at its address; one in keystrokes is a program that is
-- called. If the lowest page with the module's number has no such table entry, the line fails with
-- NONEXISTENT.
abbrev pub left_by_entry : Manner → (lifts : Bool) → Option Entry → Machine → Left
left_by_entry how lifts (Some entry) machine =
    if entry.keystroke then left_in_program how lifts (Page entry.address) machine
    else record {
      machine = with_line_passed how lifts machine;
      answer = Begins entry.address;
    }
left_by_entry how lifts None machine = left_by_fault how machine Nonexistent

-- The function of the calculator with a name, if there is one.
abbrev pub IsNamed : List ℕ → Option Function → Type 0
IsNamed name (Some function) = function_name function ≡ name
IsNamed name None = (function : Function) → function_name function ≡ name → ⊥

-- A function of the calculator is executed in place of the line that names it; if there is none,
-- the line fails with NONEXISTENT.
abbrev pub CarriesNamed : PageMap → Manner → Option Function → Machine
    → Result Left FocalRefusal → Type 0
CarriesNamed pages how (Some function) machine carried =
    TakesLine pages how (Plain function) machine carried
CarriesNamed pages how None machine carried =
    carried ≡ Ok (left_by_fault how machine Nonexistent)

-- XEQ with a name that is no label in memory: if a module has a function with this name, the table
-- entry of its two numbers is called, otherwise the function of the calculator. XEQ with the name
-- of a module's function leaves stack lift unchanged (this project's choice).
abbrev pub CallsName : PageMap → Manner → Option (ℕ × ℕ) → List ℕ → Machine
    → Result Left FocalRefusal → Type 0
CallsName pages how (Some numbers) name machine carried =
    carried ≡ Ok (left_by_entry how false (entry_at pages numbers.0 numbers.1) machine)
CallsName pages how None name machine carried =
    (function : Option Function)
    × IsNamed name function
    × CarriesNamed pages how function machine carried

-- What a line leaves with all that it calls, by its own answer, given what it leaves by itself. If
-- it calls a function, what it left is replaced. An XROM line turns stack lift on (this project's
-- choice).
abbrev pub GoesOn : PageMap → Manner → Machine → Left → Answer → Result Left FocalRefusal → Type 0
GoesOn pages how machine left (Calls number entry) carried =
    carried ≡ Ok (left_by_entry how true (entry_at pages number entry) machine)
GoesOn pages how machine left (Seeks name) carried =
    CallsName pages how (function_of_name pages name) name machine carried
GoesOn pages how machine left answer carried = carried ≡ Ok left

-- The same for a line that may be refused by itself.
abbrev pub GoesOnFrom : PageMap → Manner → Machine → Result Left FocalRefusal
    → Result Left FocalRefusal → Type 0
GoesOnFrom pages how machine (Ok left) carried = GoesOn pages how machine left left.answer carried
GoesOnFrom pages how machine (Err refusal) carried = carried ≡ Err refusal

-- A line is executed with all that it calls.
abbrev pub CarriesWhole : PageMap → Manner → Line → Machine → Result Left FocalRefusal → Type 0
CarriesWhole pages how line machine carried =
    (own : Result Left FocalRefusal)
    × TakesLine pages how line machine own
    × GoesOnFrom pages how machine own carried

-- The line at the position is executed, or refused.
abbrev pub CarriesStanding : PageMap → Machine → Result (Line × Position) FocalRefusal
    → Result Left FocalRefusal → Type 0
CarriesStanding pages machine (Ok standing) carried =
    CarriesWhole pages (Stepped standing.1) standing.0 machine carried
CarriesStanding pages machine (Err refusal) carried = carried ≡ Err refusal

-- The line at the position is executed with all that it calls, or one that was typed. A typed line
-- is refused as MemoryLost (15) if memory is not sound.
abbrev pub CarriesLine : LineSource → PageMap → Machine → Result Left FocalRefusal → Type 0
CarriesLine Program pages machine carried =
    (standing : Result (Line × Position) FocalRefusal)
    × Stands pages machine standing
    × CarriesStanding pages machine standing carried
CarriesLine (Keys line) pages machine carried =
    MatchBool (is_sound machine.memory)
    (CarriesWhole pages Typed line machine carried) (carried ≡ Err MemoryLost)
