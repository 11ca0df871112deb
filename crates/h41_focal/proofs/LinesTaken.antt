-- Lines are executed, given their operands and their rows.
use Rattle.std.specs.Prelude.{IsTrue, if◌then◌else◌}
use Rattle.std.proofs.Common.{◌≡◌, ℕ, Bool, true, false, IfNone, IfSome, Option, Some, None, Ok, Err, Result, refl}
use Rattle.h41_codes.specs.declared.functions.Function.{Function}
use Rattle.h41_codes.specs.declared.functions.ParameterFunction.{ParameterFunction}
use Rattle.h41_codes.specs.declared.functions.RegisterFunction.{RegisterFunction}
use Rattle.h41_codes.specs.declared.line.Line.TheVariants as lines
use Rattle.h41_codes.specs.declared.line.Operand.{Operand}
use Rattle.h41_codes.specs.declared.short_lines.ShortLine.{ShortLine}
use Rattle.h41_codes.specs.ShortLines.{line_of}
use Rattle.h41_focal.specs.private.Carrying.{CarriesFound, CarriesRow, StandsNoShort, StandsNumber, TakesAs}
use Rattle.h41_focal.specs.private.Carrying.{UsesAddress, UsesDigits, UsesFlag}
use Rattle.h41_focal.specs.LineStep.{StandsAt}
use Rattle.h41_positions.specs.FocalState.{Machine}
use Rattle.h41_focal.specs.private.Works.{digits_use_row, flag_use_row, highest_of, register_use_row, row_of_work}
use Rattle.h41_focal.specs.declared.origin.Origin.{Origin}
use Rattle.h41_focal.specs.declared.outcome.LineOutcome.{LineOutcome}
use Rattle.h41_focal.specs.declared.refusal.FocalRefusal.{FocalRefusal}
use Rattle.h41_focal.specs.declared.refusal.FocalRefusal.TheVariants.{NotInProfile}
use Rattle.h41_focal.specs.declared.uses.DigitsUse.{DigitsUse}
use Rattle.h41_focal.specs.declared.uses.FlagUse.{FlagUse}
use Rattle.h41_focal.specs.declared.uses.RegisterUse.{RegisterUse}
use Rattle.h41_focal.specs.declared.works.FunctionWork.{FunctionWork}
use Rattle.h41_decimal.specs.declared.ten.Ten.{Ten}
use Rattle.h41_plain_numbers.specs.MemoryNumbers.{HasNumber}
use Rattle.h41_focal.specs.private.Searching.{KeepsApart, KeepsAsking, KeepsRest}
use Rattle.h41_positions.specs.LabelledMachine.{LabelledMachine}
use Rattle.h41_pages.specs.PageMap.{PageMap}
use Rattle.h41_positions.proofs.PageAnswers.{both_here}
use Rattle.h41_positions.specs.Positions.{ShortLineAt}
use Rattle.h41_positions.specs.declared.position.Position.{Position}
use Rattle.h41_positions.specs.declared.position.Position.TheVariants.{Memory, Page}
use Rattle.h41_program.proofs.PositionsRead.{both_found}
use Rattle.h41_program.proofs.ShortReads.{short_found}
use Rattle.h41_program.specs.ProgramLines.{memory_source}
use Rattle.h41_program.specs.declared.reading.Found.{Found}
use Rattle.h41_ram.specs.RegisterMap.{RegisterMap, is_sound}
use Rattle.h41_rows.specs.FunctionRows.{function_row}
use Rattle.h41_rows.specs.LineRows.{count_row, register_row, short_row}
use Rattle.h41_rows.specs.Operands.{DigitKind, FlagKind, LabelKind, RegisterKind, data_register, kind_of}
use Rattle.h41_rows.specs.Profile.{is_use_left_out}
use Rattle.h41_rows.specs.Rows.{silent_row}
use Rattle.h41_rows.specs.declared.fault.LineFault.{LineFault}

-- A function without an operand, by its effect.
pub plain_taken :
    (pages : PageMap) (origin : Origin) (function : Function) (work : FunctionWork) (old new : Machine)
    (result : Result LineOutcome FocalRefusal)
    → Some (row_of_work work) ≡ function_row function
    → CarriesRow pages origin (row_of_work work) 0 old new result
    → TakesAs pages origin (lines.Plain function) old new result
plain_taken pages origin function work old new result row carries = rw (← row) carries

-- A function without an effect is not supported.
pub plain_left_out :
    (pages : PageMap) (origin : Origin) (function : Function) (machine : Machine)
    → None ≡ function_row function
    → TakesAs pages origin (lines.Plain function) machine machine (Err NotInProfile)
plain_left_out pages origin function machine none = rw (← none) refl

-- A function with an operand that is not supported.
pub operand_left_out :
    (pages : PageMap) (origin : Origin) (function : ParameterFunction) (operand : Operand) (machine : Machine)
    → is_use_left_out function operand ≡ true
    → TakesAs pages origin (lines.WithOperand function operand) machine machine (Err NotInProfile)
operand_left_out pages origin function operand machine out = rw out refl

-- A function with a register.
pub register_taken : (pages : PageMap) (origin : Origin) (function : ParameterFunction) (operand : Operand)
    (taken : RegisterUse) (old new : Machine) (result : Result LineOutcome FocalRefusal)
    → is_use_left_out function operand ≡ false → kind_of function ≡ RegisterKind → register_row function ≡ register_use_row taken
    → UsesAddress pages origin taken operand old new result → TakesAs pages origin (lines.WithOperand function operand) old new result
register_taken pages origin function operand taken old new result held kind row (Ok address, meant, carries) =
    rw (held, kind, ← meant, row) carries
register_taken pages origin function operand taken old new result held kind row (Err fault, meant, fails) =
    rw (held, kind, ← meant) fails

-- A function with a number of digits.
pub digits_taken : (pages : PageMap) (origin : Origin) (function : ParameterFunction) (operand : Operand)
    (taken : DigitsUse) (old new : Machine) (result : Result LineOutcome FocalRefusal)
    → is_use_left_out function operand ≡ false → kind_of function ≡ DigitKind → ((n : ℕ) → count_row function n ≡ digits_use_row taken n)
    → UsesDigits pages origin taken operand old new result → TakesAs pages origin (lines.WithOperand function operand) old new result
digits_taken pages origin function operand taken old new result held kind row (Ok digits, meant, carries) =
    rw (held, kind, ← meant, row digits) carries
digits_taken pages origin function operand taken old new result held kind row (Err fault, meant, fails) =
    rw (held, kind, ← meant) fails

-- A function with a flag.
pub flag_taken : (pages : PageMap) (origin : Origin) (function : ParameterFunction) (operand : Operand)
    (taken : FlagUse) (old new : Machine) (result : Result LineOutcome FocalRefusal)
    → is_use_left_out function operand ≡ false → kind_of function ≡ FlagKind (highest_of taken)
    → ((n : ℕ) → count_row function n ≡ flag_use_row taken n) → UsesFlag pages origin taken operand old new result
    → TakesAs pages origin (lines.WithOperand function operand) old new result
flag_taken pages origin function operand taken old new result held kind row (Ok flag, meant, carries) =
    rw (held, kind, ← meant, row flag) carries
flag_taken pages origin function operand taken old new result held kind row (Err fault, meant, fails) =
    rw (held, kind, ← meant) fails

-- A label.
pub label_taken :
    (pages : PageMap) (origin : Origin) (function : ParameterFunction) (operand : Operand) (old new : Machine)
    (result : Result LineOutcome FocalRefusal)
    → is_use_left_out function operand ≡ false
    → kind_of function ≡ LabelKind
    → register_row function ≡ silent_row
    → CarriesRow pages origin silent_row 0 old new result
    → TakesAs pages origin (lines.WithOperand function operand) old new result
label_taken pages origin function operand old new result held kind row carries = rw (held, kind, row) carries

-- RCL and STO of the registers 00 to 15.
pub short_taken : (pages : PageMap) (origin : Origin) (function : RegisterFunction) (register : ℕ)
    (found : Result ℕ LineFault) (old new : Machine) (result : Result LineOutcome FocalRefusal)
    → found ≡ data_register old.memory register
    → CarriesFound pages origin (λ address. short_row function) (λ address. address) found old new result
    → TakesAs pages origin (lines.Register function register) old new result
short_taken pages origin function register (Ok address) old new result found carries = rw (← found) carries
short_taken pages origin function register (Err fault) old new result found fails = rw (← found) fails

-- A line without a search, whether it is supported or not.
pub rest_kept : (old new : LabelledMachine) → KeepsRest old new → KeepsAsking None old new
rest_kept old new keeps = record { asks = keeps.labels; mark = keeps.mark; left = keeps.left }

pub rest_apart : (address : ℕ) (old new : LabelledMachine) → KeepsRest old new → KeepsApart address old new
rest_apart address old new keeps = record { mark = keeps.mark; labels = keeps.labels; left = λ apart. keeps.left }

pub out_kept : (out : Bool) (old new : LabelledMachine) → KeepsRest old new → KeepsAsking (if out then None else None) old new
out_kept true old new keeps = rest_kept old new keeps
out_kept false old new keeps = rest_kept old new keeps

-- The line at the position is a number line or a short line, by the answers of program memory.
pub number_stands : (pages : PageMap) (machine : Machine) (at : ℕ) (number : Ten) (next : ℕ)
    → IsTrue (is_sound machine.memory) → machine.focal.position ≡ Memory at → HasNumber machine.memory at number next
    → StandsNumber pages machine number (Memory next)
number_stands pages machine at number next sound is (text, behind, plain, follows, numbers) =
    let found : Found = record { listed = record { position = at; line = lines.Number text }; behind = behind } in
    let both = both_found (memory_source machine.memory) at found next plain.first follows in
    let stands = both_here pages machine.memory at (lines.Number text) next both in rw is (text, (sound, stands.0, stands.1), numbers)

pub short_stands : (pages : PageMap) (memory : RegisterMap) (at : Position) (result : Option (ShortLine × Position))
    → IsTrue (is_sound memory) → ShortLineAt pages memory at result
    → IfSome result (λ found. StandsAt pages memory at (Ok (line_of found.0, found.1)))
short_stands pages memory at None sound none = tt
short_stands pages memory (Memory at) (Some found) sound (next, has, is) =
    let stands = both_here pages memory at (line_of found.0) next (short_found memory at found.0 next has) in
    rw is (sound, stands.0, stands.1)
short_stands pages memory (Page address) (Some found) sound never = absurd never

pub no_short_stands : (pages : PageMap) (machine : Machine) (result : Option (ShortLine × Position))
    → ShortLineAt pages machine.memory machine.focal.position result
    → IfNone result (StandsNoShort pages machine)
no_short_stands pages machine None none = λ sound. none
no_short_stands pages machine (Some found) some = tt
