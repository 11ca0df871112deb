-- The contract of the function that places a line, if there is no line after which to place it.
use Rattle.std.specs.Prelude.{Err}
use Rattle.h41_positions.specs.FocalState.{Machine}
use Rattle.h41_pages.specs.PageMap.{PageMap}
use Rattle.h41_positions.specs.Positions.{NextAt}
use Rattle.h41_program.specs.declared.refusal.ProgramRefusal.{ProgramRefusal}

-- No line is at the position, so that there is no position after it.
abbrev pub HasNoNext : PageMap → Machine → ProgramRefusal → Type 0
HasNoNext pages machine refusal = NextAt pages machine.memory machine.focal.position (Err refusal)
