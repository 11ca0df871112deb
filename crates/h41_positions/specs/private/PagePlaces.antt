-- Definitions for the functions that read positions of pages.
use Rattle.std.specs.Prelude.{ℕ, Result}
use Rattle.h41_codes.specs.declared.line.Line.{Line}
use Rattle.h41_pages.specs.PageMap.{PageMap}
use Rattle.h41_positions.specs.Positions.{LineAndNext}
use Rattle.h41_positions.specs.declared.position.Position.{Position}
use Rattle.h41_positions.specs.declared.position.Position.TheVariants.{Page}
use Rattle.h41_program.specs.declared.refusal.ProgramRefusal.{ProgramRefusal}
use Rattle.h41_ram.specs.RegisterMap.{RegisterMap}

-- The line at an address of a page and the next position, whatever memory contains.
abbrev pub InPageAndNext : PageMap → ℕ → Result (Line × Position) ProgramRefusal → Type 0
InPageAndNext pages address result =
    (memory : RegisterMap) → LineAndNext pages memory (Page address) result
