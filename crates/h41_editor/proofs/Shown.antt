-- A line is shown, by the answers of program memory.
use Rattle.std.proofs.Common.{◌≡◌, true, false, refl, sym, Some, Result, Ok, Err, IfOk}
use Rattle.h41_editor.specs.Changes.{InsertsAt}
use Rattle.h41_editor.specs.Moves.{ShowsBefore, ShowsEnd, ShowsNext, is_last}
use Rattle.h41_editor.specs.NumberedLines.{HasNumbered}
use Rattle.h41_editor.specs.declared.numbered.NumberedLine.{NumberedLine}
use Rattle.h41_positions.specs.FocalState.{Machine, at_line}
use Rattle.h41_pages.specs.PageMap.{PageMap}
use Rattle.h41_positions.specs.Positions.{LineAt, LineBefore, NextAt}
use Rattle.h41_positions.specs.declared.position.PlacedLine.{PlacedLine}
use Rattle.h41_positions.specs.declared.position.Position.{Position}
use Rattle.h41_program.specs.declared.refusal.ProgramRefusal.{ProgramRefusal}

-- The next line is shown.
pub next_shown :
    (pages : PageMap) (from machine moved : Machine) (first : PlacedLine) (next : Position)
    → from ≡ machine
    → from.focal.at_line_00 ≡ false
    → LineAt pages from.memory from.focal.position (Ok first)
    → false ≡ is_last first
    → NextAt pages from.memory from.focal.position (Ok next)
    → moved ≡ at_line next machine
    → ShowsNext pages machine (Ok moved)
next_shown pages from machine moved first next is behind there inner goes at_line =
    rw (at_line, ← is, behind) (Ok first, there, rw (sym inner) (next, goes, refl))

-- The line before is shown.
pub before_shown :
    (pages : PageMap) (from machine moved : Machine) (numbered : NumberedLine) (before : Position)
    → from ≡ machine
    → from.focal.at_line_00 ≡ false
    → HasNumbered pages machine.memory machine.focal.position (Some numbered)
    → LineBefore pages from.memory numbered.placed.position (Some before)
    → moved ≡ at_line before machine
    → ShowsBefore pages machine (Ok moved)
before_shown pages from machine moved numbered before is behind has stands at_line =
    let there = rw (← is) at has in
    rw (at_line, ← is) (Some numbered, there, rw behind (Some before, stands, refl))

-- The end is shown, from line 00.
pub end_shown :
    (pages : PageMap) (from machine : Machine) (moved : Result Machine ProgramRefusal) (numbered : NumberedLine)
    → from ≡ machine
    → from.focal.at_line_00 ≡ true
    → HasNumbered pages machine.memory machine.focal.position (Some numbered)
    → ShowsEnd pages machine numbered.placed moved
    → ShowsBefore pages machine moved
end_shown pages from machine moved numbered is at_start has shows =
    let there = rw (← is) at has in
    let end = rw (← is) at shows in
    rw (← is) (Some numbered, there, rw at_start end)

-- The position at which a line is inserted after the shown one.
pub place_behind :
    (pages : PageMap) (from machine : Machine) (shown : PlacedLine) (next : Result Position ProgramRefusal)
    → from ≡ machine
    → from.focal.at_line_00 ≡ false
    → false ≡ is_last shown
    → NextAt pages from.memory from.focal.position next
    → IfOk next (InsertsAt pages machine shown)
place_behind pages from machine shown (Ok before) is behind inner goes = rw (← is, behind, sym inner) goes
place_behind pages from machine shown (Err refusal) is behind inner goes = tt
