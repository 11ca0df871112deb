-- Definitions for the private functions that execute lines.
use Rattle.std.specs.Prelude.{◌≡◌, ◌≤◌, ℕ, length, Option, Some, Bool, true, false, List, MatchBool}
use Rattle.std.specs.Prelude.{IsTrue, None, Result, Ok, Err}
use Rattle.h41_codes.specs.declared.characters.Character.{Character}
use Rattle.h41_codes.specs.declared.functions.Branch.{Branch}
use Rattle.h41_codes.specs.declared.functions.Function.{Function}
use Rattle.h41_codes.specs.declared.functions.NameFunction.{NameFunction}
use Rattle.h41_codes.specs.declared.functions.ParameterFunction.{ParameterFunction}
use Rattle.h41_codes.specs.declared.functions.RegisterFunction.{RegisterFunction}
use Rattle.h41_codes.specs.declared.line.Line.{Line}
use Rattle.h41_codes.specs.declared.line.Line.TheVariants as lines
use Rattle.h41_codes.specs.declared.line.Operand.{Operand}
use Rattle.h41_decimal.specs.declared.ten.Ten.{Ten}
use Rattle.h41_numbers.specs.NumberLines.{IsNumberOf}
use Rattle.h41_rows.specs.Results.{result_map}
use Rattle.h41_focal.specs.Destinations.{Manner}
use Rattle.h41_focal.specs.Destinations as destinations
use Rattle.h41_focal.specs.MachineCalls.{Call, carried_as, left_of}
use Rattle.h41_focal.specs.LineStep.{Applies, EndsInError, Left, Stands, TakesLine}
use Rattle.h41_focal.specs.OutsideCalls.{CallsName, CarriesWhole, GoesOnFrom, left_by_entry}
use Rattle.h41_positions.specs.FocalState.{FocalState, Machine, at_position}
use Rattle.h41_rows.specs.Operands.{Address, Count, DigitKind, FlagKind, NoOperand, RegisterKind}
use Rattle.h41_rows.specs.Operands.{meant_as}
use Rattle.h41_rows.specs.Computing.{meant_by}
use Rattle.h41_rows.specs.RowEffects.{lift_after, with_alpha_change}
use Rattle.h41_rows.specs.Rows.{Appends, Becomes, Lift, LineRow}
use Rattle.h41_focal.specs.private.Works.{digits_use_row, flag_use_row, highest_of}
use Rattle.h41_focal.specs.private.Works.{register_use_row, row_of_work}
use Rattle.h41_focal.specs.declared.works.FunctionWork.{FunctionWork}
use Rattle.h41_focal.specs.declared.works.FunctionWork.TheVariants.{Return}
use Rattle.h41_rows.specs.LineRows.{row_of, text_row, to_label, to_meant, to_name}
use Rattle.h41_rows.specs.declared.operands.BranchTarget.{BranchTarget}
use Rattle.h41_rows.specs.declared.fault.LineFault.{LineFault}
use Rattle.h41_focal.specs.declared.origin.Origin.{Origin}
use Rattle.h41_focal.specs.declared.origin.Origin.TheVariants.{Program, Typed}
use Rattle.h41_focal.specs.declared.outcome.LineOutcome.{LineOutcome}
use Rattle.h41_focal.specs.declared.outcome.LineOutcome.TheVariants as outcomes
use Rattle.h41_focal.specs.declared.refusal.FocalRefusal.{FocalRefusal}
use Rattle.h41_focal.specs.declared.refusal.FocalRefusal.TheVariants.{BrokenProgram}
use Rattle.h41_focal.specs.declared.uses.DigitsUse.{DigitsUse}
use Rattle.h41_focal.specs.declared.uses.FlagUse.{FlagUse}
use Rattle.h41_focal.specs.declared.uses.FlagUse.TheVariants.{AskAndClear}
use Rattle.h41_focal.specs.declared.uses.RegisterUse.{RegisterUse}
use Rattle.h41_pages.specs.FunctionTables.{function_of_name}
use Rattle.h41_pages.specs.PageMap.{PageMap}
use Rattle.h41_pages.specs.declared.functions.Entry.{Entry}
use Rattle.h41_plain_numbers.specs.MemoryNumbers.{HasNoNumber}
use Rattle.h41_positions.specs.Positions.{NextAt, ShortLineAt}
use Rattle.h41_positions.specs.declared.position.Position.TheVariants.{Memory}
use Rattle.h41_positions.specs.declared.position.Position.{Position}
use Rattle.h41_program.specs.declared.refusal.ProgramRefusal.TheVariants as program
use Rattle.h41_ram.specs.RegisterMap.{RegisterMap, is_sound}

-- The origin of a line in the code is its origin in the definitions.
abbrev pub manner_of : Origin → Manner
manner_of (Program next) = destinations.Stepped next
manner_of Typed = destinations.Typed

-- The state at the next line. A typed line leaves the position unchanged.
abbrev pub on_to_next : Origin → Lift → FocalState → FocalState
on_to_next (Program next) lift focal =
    record (at_position next focal) { lift = lift_after lift focal.lift }
on_to_next Typed lift focal = record focal { lift = lift_after lift focal.lift }

-- A row was applied to a machine by a line that searches no position, whatever the pages contain.
abbrev pub Leaves : Origin → LineRow → ℕ → (old new : Machine) → LineOutcome → Type 0
Leaves origin row named old new outcome =
    (pages : PageMap) → Applies pages (manner_of origin) row named old (Ok (left_of new outcome))

-- A row was applied to a machine, or the line was refused.
abbrev pub CarriesRow : PageMap → Origin → LineRow → ℕ → (old new : Machine)
    → Result LineOutcome FocalRefusal
    → Type 0
CarriesRow pages origin row named old new result =
    Applies pages (manner_of origin) row named old (carried_as new result)

-- The place at which execution continues after a test: at the next line if it is true, otherwise
-- after it. A typed line does not move.
abbrev pub Leads : PageMap → Origin → RegisterMap → Bool → Result Origin FocalRefusal → Type 0
Leads pages (Program next) memory holds (Ok lead) =
    (position : Position)
    × (lead ≡ Program position)
    × MatchBool holds (position ≡ next) (NextAt pages memory next (Ok position))
Leads pages (Program next) memory holds (Err refusal) =
    (refusal ≡ BrokenProgram)
    × (holds ≡ false)
    × NextAt pages memory next (Err program.BrokenProgram)
Leads pages Typed memory holds lead = lead ≡ Ok Typed

-- The outcome of a test: its result if it was typed.
abbrev pub test_answer : Origin → Bool → LineOutcome
test_answer (Program next) holds = outcomes.Done
test_answer Typed holds = outcomes.Answered holds

-- A line was executed, or refused.
abbrev pub TakesAs : PageMap → Origin → Line → Call
TakesAs pages origin line old new result =
    TakesLine pages (manner_of origin) line old (carried_as new result)

-- A row was applied to a machine, and what its line calls was executed, or the line was refused.
abbrev pub CarriesRowWhole : PageMap → Origin → LineRow → ℕ → (old new : Machine)
    → Result LineOutcome FocalRefusal
    → Type 0
CarriesRowWhole pages origin row named old new result =
    (own : Result Left FocalRefusal)
    × Applies pages (manner_of origin) row named old own
    × GoesOnFrom pages (manner_of origin) old own (carried_as new result)

-- A line was executed with all that it calls, or refused.
abbrev pub CarriesAs : PageMap → Origin → Line → Call
CarriesAs pages origin line old new result =
    CarriesWhole pages (manner_of origin) line old (carried_as new result)

-- The table entry of a module's function was called.
abbrev pub CallsEntry : Origin → (lifts : Bool) → Option Entry → (old new : Machine) → LineOutcome
    → Type 0
CallsEntry origin lifts entry old new outcome =
    carried_as new (Ok outcome) ≡ Ok (left_by_entry (manner_of origin) lifts entry old)

-- What has a name was called, or the function of the calculator with that name was refused.
abbrev pub CallsNamed : PageMap → Origin → List ℕ → Call
CallsNamed pages origin name old new result =
    CallsName pages (manner_of origin) (function_of_name pages name) name old
    (carried_as new result)

-- The function of a line without an operand.
abbrev pub IsFunction : Line → Option Function → Type 0
IsFunction line (Some function) = line ≡ lines.Plain function
IsFunction line None = (function : Function) → line ≡ lines.Plain function → ⊥

-- A row was applied for the value of an operand that was found, or the line had its error.
abbrev pub CarriesFound : {A : Type 0} → PageMap → Origin → (A → LineRow) → (A → ℕ)
    → Result A LineFault
    → (old new : Machine) → Result LineOutcome FocalRefusal → Type 0
CarriesFound pages origin row named (Ok found) old new result =
    CarriesRow pages origin (row found) (named found) old new result
CarriesFound pages origin row named (Err fault) old new result =
    EndsInError (manner_of origin) old fault (carried_as new result)

-- A function with the register of an operand was executed.
abbrev pub UsesAddress : PageMap → Origin → RegisterUse → Operand → (old new : Machine)
    → Result LineOutcome FocalRefusal → Type 0
UsesAddress pages origin taken operand old new result =
    (found : Result ℕ LineFault)
    × (result_map Address found ≡ meant_as RegisterKind old.memory operand)
    × CarriesFound pages origin (λ address. register_use_row taken)
    (λ address. address) found old new result

-- A function with the number of digits of an operand was executed.
abbrev pub UsesDigits : PageMap → Origin → DigitsUse → Operand → (old new : Machine)
    → Result LineOutcome FocalRefusal → Type 0
UsesDigits pages origin taken operand old new result =
    (found : Result ℕ LineFault) × (result_map Count found ≡ meant_as DigitKind old.memory operand)
    × CarriesFound pages origin (digits_use_row taken) (λ digits. 0) found old new result

-- A function with the flag of an operand was executed.
abbrev pub UsesFlag : PageMap → Origin → FlagUse → Operand → (old new : Machine)
    → Result LineOutcome FocalRefusal → Type 0
UsesFlag pages origin taken operand old new result =
    (found : Result ℕ LineFault)
    × (result_map Count found ≡ meant_as (FlagKind (highest_of taken)) old.memory operand)
    × CarriesFound pages origin (flag_use_row taken) (λ flag. 0) found old new result

-- The line at the position is a number line with this number.
abbrev pub StandsNumber : PageMap → Machine → Ten → Position → Type 0
StandsNumber pages machine number next =
    (text : List Character)
    × Stands pages machine (Ok (lines.Number text, next))
    × IsNumberOf text number

-- If memory is sound, the line at the position is no short line.
abbrev pub StandsNoShort : PageMap → Machine → Type 0
StandsNoShort pages machine =
    IsTrue (is_sound machine.memory)
    → ShortLineAt pages machine.memory machine.focal.position None

-- If memory is sound, the line at the position is no number line that can be read in one pass.
abbrev pub StandsNoNumber : Machine → Type 0
StandsNoNumber machine =
    IsTrue (is_sound machine.memory)
    → (at : ℕ) → machine.focal.position ≡ Memory at → HasNoNumber machine.memory at

-- A row that names no register was applied.
abbrev pub LeavesRow : Origin → LineRow → (old new : Machine) → LineOutcome → Type 0
LeavesRow origin row old new outcome = (named : ℕ) → Leaves origin row named old new outcome

-- A line without an operand was executed.
abbrev pub DoesLine : Origin → Line → (old new : Machine) → LineOutcome → Type 0
DoesLine origin line old new outcome = LeavesRow origin (row_of line NoOperand) old new outcome

-- A function without an operand had its effect.
abbrev pub DoesWork : Origin → FunctionWork → (old new : Machine) → LineOutcome → Type 0
DoesWork origin work old new outcome = LeavesRow origin (row_of_work work) old new outcome

-- A function without an operand had its effect, or was refused.
abbrev pub CarriesWork : PageMap → Origin → FunctionWork → (old new : Machine)
    → Result LineOutcome FocalRefusal → Type 0
CarriesWork pages origin work old new result =
    (named : ℕ) → CarriesRow pages origin (row_of_work work) named old new result

-- A function with a register had its effect.
abbrev pub UsesAt : Origin → RegisterUse → ℕ → (old new : Machine) → LineOutcome → Type 0
UsesAt origin taken address old new outcome =
    Leaves origin (register_use_row taken) address old new outcome

-- A function with a register had its effect, or was refused.
abbrev pub DoesUse : PageMap → Origin → RegisterUse → ℕ → (old new : Machine)
    → Result LineOutcome FocalRefusal → Type 0
DoesUse pages origin taken address old new result =
    CarriesRow pages origin (register_use_row taken) address old new result

-- A function with a flag had its effect, or was refused.
abbrev pub CarriesFlag : PageMap → Origin → FlagUse → ℕ → (old new : Machine)
    → Result LineOutcome FocalRefusal → Type 0
CarriesFlag pages origin taken flag old new result =
    (named : ℕ) → CarriesRow pages origin (flag_use_row taken flag) named old new result

-- A function with a number of digits had its effect.
abbrev pub LeavesDigits : Origin → DigitsUse → ℕ → (old new : Machine) → LineOutcome → Type 0
LeavesDigits origin taken digits old new outcome =
    LeavesRow origin (digits_use_row taken digits) old new outcome

-- A branch to a local label was executed.
abbrev pub GoesToLabel : PageMap → Origin → Branch → ℕ → (old new : Machine) → LineOutcome → Type 0
GoesToLabel pages origin branch label old new outcome =
    (named : ℕ) → CarriesRow pages origin (to_label branch label) named old new (Ok outcome)

-- A branch to a name was executed with all that it calls, or refused.
abbrev pub GoesToName : PageMap → Origin → Branch → List ℕ → Call
GoesToName pages origin branch name old new result =
    (named : ℕ) → CarriesRowWhole pages origin (to_name branch name) named old new result

-- A return was executed.
abbrev pub GoesBack : PageMap → Origin → (old new : Machine) → LineOutcome → Type 0
GoesBack pages origin old new outcome = CarriesWork pages origin Return old new (Ok outcome)

-- The outcome of an error, which depends on whether flag 25 makes the program ignore it.
abbrev pub fault_outcome : (passed : Bool) → LineFault → LineOutcome
fault_outcome true fault = outcomes.Done
fault_outcome false fault = outcomes.Failed fault

-- A line had an error.
abbrev pub LineFails : Origin → LineFault → (old new : Machine) → LineOutcome → Type 0
LineFails origin fault old new outcome =
    EndsInError (manner_of origin) old fault (Ok (left_of new outcome))

-- A line with a name was executed with all that it calls, or refused.
abbrev pub TakesNamed : PageMap → Origin → NameFunction → List ℕ → Call
TakesNamed pages origin function name old new result =
    CarriesAs pages origin (lines.Named function name) old new result

-- RCL or STO in one byte was executed, or refused.
abbrev pub TakesShort : PageMap → Origin → RegisterFunction → ℕ → Call
TakesShort pages origin function register old new result =
    TakesAs pages origin (lines.Register function register) old new result

-- A function with an operand was executed, or refused.
abbrev pub TakenBy : PageMap → Origin → ParameterFunction → Operand → Call
TakenBy pages origin function operand old new result =
    TakesAs pages origin (lines.WithOperand function operand) old new result

-- GTO IND or XEQ IND was executed with all that it calls, or refused.
abbrev pub TakesBranch : PageMap → Origin → Branch → ℕ → Call
TakesBranch pages origin branch register old new result =
    CarriesAs pages origin (lines.BranchIndirect branch register) old new result

-- A flag was tested and cleared, or the line was refused.
abbrev pub ClearsFlag : PageMap → Origin → Bool → ℕ → Call
ClearsFlag pages origin on flag old new result =
    CarriesFlag pages origin (AskAndClear on) flag old new result

-- A branch to the content of a register was executed with all that it calls, or refused.
abbrev pub GoesToTarget : PageMap → Origin → Branch → BranchTarget → Call
GoesToTarget pages origin branch target old new result =
    (named : ℕ)
    → CarriesRowWhole pages origin (to_meant branch (meant_by target)) named old new result

-- A text line changed ALPHA.
abbrev pub PutsText : List ℕ → RegisterMap → RegisterMap → Type 0
PutsText text old new = (named : ℕ) → new ≡ with_alpha_change old named (text_row text).alpha old

-- The text after the append sign.
abbrev pub IsAppended : List ℕ → List ℕ → Type 0
IsAppended text rest = (text_row text).alpha ≡ Some (Appends rest)

-- A text that does not begin with the append sign.
abbrev pub ReplacesAlpha : List ℕ → Type 0
ReplacesAlpha text = 1 ≤ length text → (text_row text).alpha ≡ Some (Becomes text)
