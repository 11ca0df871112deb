-- The effect of SST, BST and GTO . . on the position. A position shows the line at it, or line 00
-- of its program. That these keys keep the return addresses, and what they refuse, is this
-- project's choice.
use Rattle.std.specs.Prelude.{◌≡◌, ℕ, Bool, true, ◌||◌, List, [], MatchBool, Option, Some, None}
use Rattle.std.specs.Prelude.{Result, Ok, Err}
use Rattle.h41_editor.specs.NumberedLines.{HasNumbered}
use Rattle.h41_editor.specs.declared.numbered.NumberedLine.{NumberedLine}
use Rattle.h41_positions.specs.FocalState.{Machine, at_line_00, at_line}
use Rattle.h41_pages.specs.PageMap.{PageMap}
use Rattle.h41_program.specs.Edits.{before_end, close_behind}
use Rattle.h41_program.specs.LastProgram.{open_in}
use Rattle.h41_program.specs.Lines.{is_end, is_final_end}
use Rattle.h41_program.specs.ProgramBytes.{final_position}
use Rattle.h41_positions.specs.Positions.{EndOf, LineAt, LineBefore, NextAt, StartOf}
use Rattle.h41_program.specs.ProgramLines.{AnswersOf, LinesFrom}
use Rattle.h41_program.specs.Searches.{start_in}
use Rattle.h41_program.specs.declared.listed_line.ListedLine.{ListedLine}
use Rattle.h41_positions.specs.declared.position.PlacedLine.{PlacedLine}
use Rattle.h41_positions.specs.declared.position.Position.{Position}
use Rattle.h41_positions.specs.declared.position.Position.TheVariants.{Memory}
use Rattle.h41_program.specs.declared.refusal.ProgramRefusal.{ProgramRefusal}
use Rattle.h41_program.specs.declared.refusal.ProgramRefusal.TheVariants.{BrokenProgram}
use Rattle.h41_ram.specs.RegisterMap.{RegisterMap}

-- The outcome of a key: the machine after it, or a refusal.
abbrev pub made_as : Machine → Result (Unit {0}) ProgramRefusal → Result Machine ProgramRefusal
made_as machine (Ok done) = Ok machine
made_as machine (Err refusal) = Err refusal

-- Line 00 of the position's program is shown.
abbrev pub ShowsStart : PageMap → Machine → Result Machine ProgramRefusal → Type 0
ShowsStart pages machine moved =
    (start : Position)
    × StartOf pages machine.memory machine.focal.position start
    × (moved ≡ Ok (record machine { focal = at_line_00 start machine.focal }))

-- The last line of a program is its END or .END.
abbrev pub is_last : PlacedLine → Bool
is_last at_line = is_end at_line.line || is_final_end at_line.line

-- SST shows the next line, or after the last line of a program its line 00 (this project's choice).
-- If no line follows, it moves to the byte or word after the shown line. It is refused as
-- BrokenProgram (14) if the shown line cannot be read.
abbrev pub ShowsAfterLine : PageMap → Machine → Result PlacedLine ProgramRefusal
    → Result Machine ProgramRefusal
    → Type 0
ShowsAfterLine pages machine (Ok first) moved =
    MatchBool (is_last first) (ShowsStart pages machine moved)
    ((next : Position)
    × NextAt pages machine.memory machine.focal.position (Ok next)
    × (moved ≡ Ok (at_line next machine)))
ShowsAfterLine pages machine (Err refusal) moved = moved ≡ Err BrokenProgram

-- SST at line 00 shows the line at the position, which is the program's first line.
abbrev pub ShowsNext : PageMap → Machine → Result Machine ProgramRefusal → Type 0
ShowsNext pages machine moved =
    MatchBool machine.focal.at_line_00 (moved ≡ Ok (at_line machine.focal.position machine))
    ((first : Result PlacedLine ProgramRefusal)
    × LineAt pages machine.memory machine.focal.position first
    × ShowsAfterLine pages machine first moved)

-- The end of a program is shown, or it has none and the key is refused as BrokenProgram (14).
abbrev pub shown_end : Machine → Option Position → Result Machine ProgramRefusal
shown_end machine (Some position) = Ok (at_line position machine)
shown_end machine None = Err BrokenProgram

-- BST at line 00 shows the end of the program.
abbrev pub ShowsEnd : PageMap → Machine → PlacedLine → Result Machine ProgramRefusal → Type 0
ShowsEnd pages machine first moved =
    (end : Option Position)
    × EndOf pages machine.memory first.position end
    × (moved ≡ shown_end machine end)

-- A line is shown, or line 00 if there is none.
abbrev pub ShowsAt : PageMap → Machine → Option Position → Result Machine ProgramRefusal → Type 0
ShowsAt pages machine (Some position) moved = moved ≡ Ok (at_line position machine)
ShowsAt pages machine None moved = ShowsStart pages machine moved

-- BST at a line shows the line before it, or line 00 if it is the first.
abbrev pub ShowsInFront : PageMap → Machine → PlacedLine → Result Machine ProgramRefusal → Type 0
ShowsInFront pages machine first moved =
    (before : Option Position)
    × LineBefore pages machine.memory first.position before
    × ShowsAt pages machine before moved

-- BST is refused as BrokenProgram (14) if the position's program has no line there.
abbrev pub ShowsBeforeLine : PageMap → Machine → Option NumberedLine → Result Machine ProgramRefusal
    → Type 0
ShowsBeforeLine pages machine (Some numbered) moved =
    MatchBool machine.focal.at_line_00 (ShowsEnd pages machine numbered.placed moved)
    (ShowsInFront pages machine numbered.placed moved)
ShowsBeforeLine pages machine None moved = moved ≡ Err BrokenProgram

-- BST shows the line before the shown one.
abbrev pub ShowsBefore : PageMap → Machine → Result Machine ProgramRefusal → Type 0
ShowsBefore pages machine moved =
    (numbered : Option NumberedLine)
    × HasNumbered pages machine.memory machine.focal.position numbered
    × ShowsBeforeLine pages machine numbered moved

-- All return addresses are cleared if an END is appended to the last program, and are kept
-- otherwise.
abbrev pub returns_kept : Result Bool ProgramRefusal → List Position → List Position
returns_kept (Ok true) returns = []
returns_kept other returns = returns

-- After the last program is closed, line 00 of the last program is shown.
abbrev pub EndsBy : Machine → List ListedLine → Result (RegisterMap × Unit {0}) ProgramRefusal
    → Result Machine ProgramRefusal → Type 0
EndsBy machine lines (Ok closed) moved =
    (start : ℕ)
    × AnswersOf (start_in (final_position closed.0)) closed.0 0 start
    × (moved ≡ Ok (record {
      memory = closed.0;
      focal = record (at_line_00 (Memory start) machine.focal) {
        returns = returns_kept (open_in lines) machine.focal.returns;
      };
    }))
EndsBy machine lines (Err refusal) moved = moved ≡ Err refusal

-- GTO . . appends an END to the last program if it has lines but no END, and shows line 00 of the
-- last program. It is refused as BrokenProgram (14) if the list of lines does not reach .END., and
-- as NoRoom (16) if there is no room.
abbrev pub GoesToEnd : Machine → Result Machine ProgramRefusal → Type 0
GoesToEnd machine moved =
    (lines : List ListedLine) × LinesFrom machine.memory 0 lines
    × EndsBy machine lines (close_behind machine.memory (before_end lines)) moved
