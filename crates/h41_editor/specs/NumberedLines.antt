-- The line at a position, with its number in its program.
use Rattle.std.specs.Prelude.{◌≡◌, ℕ, Option, None, Result, Ok, Err}
use Rattle.std.specs.Option.{option_map}
use Rattle.h41_editor.specs.declared.numbered.NumberedLine.{NumberedLine}
use Rattle.h41_pages.specs.PageMap.{PageMap}
use Rattle.h41_positions.specs.Positions.{LineAt, NumberAt}
use Rattle.h41_positions.specs.declared.position.PlacedLine.{PlacedLine}
use Rattle.h41_positions.specs.declared.position.Position.{Position}
use Rattle.h41_program.specs.declared.refusal.ProgramRefusal.{ProgramRefusal}
use Rattle.h41_ram.specs.RegisterMap.{RegisterMap}

-- A line with a number.
abbrev pub with_number : PlacedLine → ℕ → NumberedLine
with_number placed number = record { placed = placed; number = number }

-- The first line from a position on has its number in its program. There is none if no line can be
-- read there, or if its program has none there.
abbrev pub Numbers : PageMap → RegisterMap → Result PlacedLine ProgramRefusal → Option NumberedLine
    → Type 0
Numbers pages memory (Ok first) numbered =
    (number : Option ℕ) × NumberAt pages memory first.position number
    × (numbered ≡ option_map (with_number first) number)
Numbers pages memory (Err refusal) numbered = numbered ≡ None

-- The line at a position with its number, or none.
abbrev pub HasNumbered : PageMap → RegisterMap → Position → Option NumberedLine → Type 0
HasNumbered pages memory at numbered =
    (first : Result PlacedLine ProgramRefusal)
    × LineAt pages memory at first
    × Numbers pages memory first numbered
