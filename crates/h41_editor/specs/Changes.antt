-- The changes of lines in program mode: a line is inserted after the shown one, replaces it, or is
-- deleted. Only programs in memory can be changed; in a page a change is refused as BrokenProgram
-- (14). Each change shows the new line, or the line before a deleted one, and clears all return
-- addresses. The place of an inserted line, and the effect of BACK at line 00 and .END., are this
-- project's choice, except for what the Owner's Handbook shows.
use Rattle.std.specs.Prelude.{◌≡◌, ℕ, Bool, false, not, ◌&&◌, [], MatchBool, Option, Some, None}
use Rattle.std.specs.Prelude.{Result, Ok, Err}
use Rattle.h41_codes.specs.declared.line.Line.{Line}
use Rattle.h41_editor.specs.Moves.{is_last}
use Rattle.h41_editor.specs.NumberedLines.{HasNumbered}
use Rattle.h41_editor.specs.declared.numbered.NumberedLine.{NumberedLine}
use Rattle.h41_positions.specs.FocalState.{FocalState, Machine, at_position, halted_at}
use Rattle.h41_pages.specs.PageMap.{PageMap}
use Rattle.h41_program.specs.Edits.{EditGives, StandsBefore, StandsNew, with_inserted}
use Rattle.h41_program.specs.Edits.{with_replaced, without_deleted}
use Rattle.h41_program.specs.Lines.{is_final_end}
use Rattle.h41_positions.specs.Positions.{LineAt, NextAt, StartOf}
use Rattle.h41_program.specs.declared.editing.InFront.{InFront}
use Rattle.h41_program.specs.declared.editing.InFront.TheVariants as fronts
use Rattle.h41_positions.specs.declared.position.PlacedLine.{PlacedLine}
use Rattle.h41_positions.specs.declared.position.Position.{Position}
use Rattle.h41_positions.specs.declared.position.Position.TheVariants.{Memory, Page}
use Rattle.h41_program.specs.declared.refusal.ProgramRefusal.{ProgramRefusal}
use Rattle.h41_program.specs.declared.refusal.ProgramRefusal.TheVariants.{BrokenProgram}
use Rattle.h41_ram.specs.RamState.{RamState, MarksIf}
use Rattle.h41_ram.specs.RegisterMap.{RegisterMap}

-- The outcome of a change: memory, or a refusal.
abbrev pub Changed : Type 0
Changed = Result (RegisterMap × Unit {0}) ProgramRefusal

-- A line is shown, and all return addresses are cleared.
abbrev pub with_line_shown : Position → FocalState → FocalState
with_line_shown position focal = record (at_position position focal) { returns = [] }

-- Memory is changed, and the line at a byte of it is shown.
abbrev pub showing_line : Machine → RegisterMap → ℕ → Machine
showing_line machine new byte =
    record { memory = new; focal = with_line_shown (Memory byte) machine.focal }

-- Memory is changed, and line 00 of the program that begins at a byte of it is shown.
abbrev pub showing_start : Machine → RegisterMap → ℕ → Machine
showing_start machine new start =
    record { memory = new; focal = halted_at (Memory start) machine.focal }

-- A new line is shown, or the change is refused.
abbrev pub ShowsNew : Machine → ℕ → Changed → Result Machine ProgramRefusal → Type 0
ShowsNew machine at (Ok changed) made =
    (position : ℕ)
    × StandsNew machine.memory at changed.0 position
    × (made ≡ Ok (showing_line machine changed.0 position))
ShowsNew machine at (Err refusal) made = made ≡ Err refusal

-- The position before which a line is inserted: at line 00 the start of the program, if an END or
-- .END. is shown its position, otherwise the position after the shown line.
abbrev pub InsertsAt : PageMap → Machine → PlacedLine → Position → Type 0
InsertsAt pages machine shown before =
    MatchBool machine.focal.at_line_00 (StartOf pages machine.memory machine.focal.position before)
    (MatchBool (is_last shown) (before ≡ shown.position)
    (NextAt pages machine.memory machine.focal.position (Ok before)))

-- A line is inserted before a position of memory. In a page this is refused as BrokenProgram (14).
abbrev pub InsertsBefore : Line → Machine → Position → Result Machine ProgramRefusal → Type 0
InsertsBefore line machine (Memory before) made =
    (changed : Changed)
    × EditGives machine.memory (with_inserted line) before changed
    × ShowsNew machine before changed made
InsertsBefore line machine (Page address) made = made ≡ Err BrokenProgram

-- The change is refused as BrokenProgram (14) if the program has no line at the position, at line
-- 00 too.
abbrev pub InsertsBy : PageMap → Line → Machine → Option NumberedLine
    → Result Machine ProgramRefusal → Type 0
InsertsBy pages line machine (Some numbered) made =
    (before : Position)
    × InsertsAt pages machine numbered.placed before
    × InsertsBefore line machine before made
InsertsBy pages line machine None made = made ≡ Err BrokenProgram

-- A line is inserted after the shown one. It is also refused if the list of lines does not reach
-- .END. (BrokenProgram, 14) or if there is no room (NoRoom, 16).
abbrev pub Inserts : PageMap → Line → Machine → Result Machine ProgramRefusal → Type 0
Inserts pages line machine made =
    (numbered : Option NumberedLine)
    × HasNumbered pages machine.memory machine.focal.position numbered
    × InsertsBy pages line machine numbered made

-- A line of memory is replaced and the new one shown. In a page this is refused as BrokenProgram
-- (14).
abbrev pub ReplacesAt : Line → Machine → Position → Result Machine ProgramRefusal → Type 0
ReplacesAt line machine (Memory at) made =
    (changed : Changed)
    × EditGives machine.memory (with_replaced line) at changed
    × ShowsNew machine at changed made
ReplacesAt line machine (Page address) made = made ≡ Err BrokenProgram

-- The shown line is replaced.
abbrev pub Replaces : Line → Machine → Result Machine ProgramRefusal → Type 0
Replaces line machine made = ReplacesAt line machine machine.focal.position made

-- After a line is deleted, the line before it in its program is shown, or line 00 if it was the
-- first.
abbrev pub shown_in_front : Machine → RegisterMap → InFront → Machine
shown_in_front machine new (fronts.Line position) = showing_line machine new position
shown_in_front machine new (fronts.Start start) = showing_start machine new start

-- The line before a deleted one is shown, or the change is refused.
abbrev pub ShowsFront : Machine → ℕ → Changed → Result Machine ProgramRefusal → Type 0
ShowsFront machine at (Ok changed) made =
    (front : InFront)
    × StandsBefore machine.memory at changed.0 front
    × (made ≡ Ok (shown_in_front machine changed.0 front))
ShowsFront machine at (Err refusal) made = made ≡ Err refusal

-- A line of memory is deleted. In a page this is refused as BrokenProgram (14).
abbrev pub DeletesAt : Machine → Position → Result Machine ProgramRefusal → Type 0
DeletesAt machine (Memory at) made =
    (changed : Changed)
    × EditGives machine.memory without_deleted at changed
    × ShowsFront machine at changed made
DeletesAt machine (Page address) made = made ≡ Err BrokenProgram

-- BACK deletes the shown line. It changes nothing at .END., whatever memory or the page contains.
abbrev pub DeletesLine : Machine → Result PlacedLine ProgramRefusal → Result Machine ProgramRefusal
    → Type 0
DeletesLine machine (Ok first) made =
    MatchBool (is_final_end first.line) (made ≡ Ok machine)
    (DeletesAt machine machine.focal.position made)
DeletesLine machine (Err refusal) made = made ≡ Err BrokenProgram

-- BACK at line 00 changes nothing; elsewhere it deletes the shown line.
abbrev pub Deletes : PageMap → Machine → Result Machine ProgramRefusal → Type 0
Deletes pages machine made =
    MatchBool machine.focal.at_line_00 (made ≡ Ok machine)
    ((first : Result PlacedLine ProgramRefusal)
    × LineAt pages machine.memory machine.focal.position first
    × DeletesLine machine first made)

-- BACK removes the line at the position unless it is .END.
abbrev pub removes_line : Result PlacedLine ProgramRefusal → Bool
removes_line (Ok first) = not (is_final_end first.line)
removes_line (Err refusal) = false

-- The dirty flag of memory after BACK, accepted or refused. Memory is written only if a line is
-- removed, and never at line 00.
abbrev pub MarksDeletion : Bool → PageMap → Machine → RamState → RamState → Type 0
MarksDeletion done pages machine old new =
    MatchBool machine.focal.at_line_00 (MarksIf false old new)
    ((first : Result PlacedLine ProgramRefusal)
    × LineAt pages machine.memory machine.focal.position first
    × MarksIf (removes_line first && done) old new)
