-- The last program in memory: whether it is open, and the lines after it is closed.
use Rattle.std.specs.Prelude.{◌≡◌, Bool, false, ◌&&◌, List, Option, Some, None, Result, Ok, Err}
use Rattle.std.specs.Result.{result_unwrap_or}
use Rattle.h41_codes.specs.declared.line.Line.{Line}
use Rattle.h41_ram.specs.RamState.{RamState, MarksIf}
use Rattle.h41_ram.specs.RegisterMap.{RegisterMap}
use Rattle.h41_program.specs.declared.listed_line.ListedLine.{ListedLine}
use Rattle.h41_program.specs.declared.refusal.ProgramRefusal.{ProgramRefusal}
use Rattle.h41_program.specs.declared.refusal.ProgramRefusal.TheVariants.{BrokenProgram}
use Rattle.h41_program.specs.Edits.{lines_of, before_end, with_last_end, is_open, Closes}
use Rattle.h41_program.specs.ProgramLines.{AnswersOf, LinesFrom}

-- Whether the lines before .END. are open, or BrokenProgram (14) if there is no .END.
abbrev pub open_before : Option (List ListedLine) → Result Bool ProgramRefusal
open_before None = Err BrokenProgram
open_before (Some lines) = Ok (is_open (lines_of lines))

-- Whether the last program of a list has lines but no END.
abbrev pub open_in : List ListedLine → Result Bool ProgramRefusal
open_in lines = open_before (before_end lines)

-- The dirty flag of memory after a call that closes the last program, accepted or refused: an END
-- is written if that program is open, and nothing otherwise.
abbrev pub MarksClosing : Bool → RamState → RamState → Type 0
MarksClosing done old new =
    (last : Result Bool ProgramRefusal)
    × AnswersOf open_in old.registers 0 last
    × MarksIf (result_unwrap_or last false && done) old new

-- Closed lines are not open.
abbrev pub ClosedIsNotOpen : Type 0
ClosedIsNotOpen = (lines : List Line) → is_open (with_last_end lines) ≡ false

-- Memory has, before .END., the lines of another memory, closed.
pub record LeavesClosed (memory new : RegisterMap) : Type 0 where
  pub lines : List ListedLine
  pub before : List ListedLine
  pub listed : List ListedLine
  pub after : List ListedLine
  pub from : LinesFrom memory 0 lines
  pub own : before_end lines ≡ Some before
  pub read : LinesFrom new 0 listed
  pub all : before_end listed ≡ Some after
  pub same : lines_of after ≡ with_last_end (lines_of before)

-- After its last program is closed, memory is read as the closed lines.
abbrev pub CloseIsRead : Type 0
CloseIsRead = (memory new : RegisterMap) → Closes memory new (Ok tt) → LeavesClosed memory new
