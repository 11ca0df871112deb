-- Definitions for the private functions that change the list of lines.
use Rattle.std.specs.Prelude.{◌≡◌, ℕ, is_some, Bool, true, not, MatchBool, IsOkAnd, ◌&&◌, List, []}
use Rattle.std.specs.Prelude.{Option, Result, Err}
use Rattle.std.specs.List.{flat_map}
use Rattle.std.specs.Option.{option_map}
use Rattle.h41_codes.specs.ByteGrammar.{IsLine}
use Rattle.h41_codes.specs.declared.line.Line.{Line}
use Rattle.h41_ram.specs.RegisterMap.{RegisterMap}
use Rattle.h41_program.specs.declared.editing.Change.{Change}
use Rattle.h41_program.specs.declared.editing.Change.TheVariants.{Delete, Put}
use Rattle.h41_program.specs.declared.editing.Placement.TheVariants.{Before, Instead}
use Rattle.h41_program.specs.declared.listed_line.ListedLine.{ListedLine}
use Rattle.h41_program.specs.declared.packer.Packer.{Packer}
use Rattle.h41_program.specs.declared.reading.Found.{Found}
use Rattle.h41_program.specs.declared.refusal.ProgramRefusal.{ProgramRefusal}
use Rattle.h41_program.specs.declared.refusal.ProgramRefusal.TheVariants.{BrokenProgram}
use Rattle.h41_program.specs.Edits.{memory_with_answer, before_end, count_before, has_line_at}
use Rattle.h41_program.specs.Edits.{with_inserted, with_replaced, without_deleted}
use Rattle.h41_program.specs.private.Packers.{Packs, line_if}
use Rattle.h41_program.specs.ProgramBytes.{final_position, program_bytes}
use Rattle.h41_program.specs.FirstLines.{FirstFrom}
use Rattle.h41_program.specs.ProgramLines.{LinesFrom}
use Rattle.h41_program.specs.Rewriting.{with_program_lines, HasOutcome}

-- The lines of a packer are written into memory.
abbrev pub Writes : Packer → RegisterMap → RegisterMap → Result (Unit {0}) ProgramRefusal → Type 0
Writes packer old new result =
    (lines : List Line) → Packs packer lines
    → HasOutcome old new result (memory_with_answer tt (with_program_lines old lines))

-- The lines at a line of the list after a change.
abbrev pub lines_of_change : Change → ℕ → ListedLine → List Line
lines_of_change (Put line Before) = with_inserted line
lines_of_change (Put line Instead) = with_replaced line
lines_of_change Delete = without_deleted

-- The new line of a change has its parts in their ranges.
abbrev pub IsChange : Change → Type 0
IsChange (Put line placement) = IsLine line
IsChange Delete = Unit {0}

-- The new line, at the line that is changed.
abbrev pub new_part : Bool → Change → List Line
new_part here (Put line placement) = line_if here line
new_part here Delete = []

-- Whether a line remains.
abbrev pub is_kept : Bool → Change → Bool
is_kept here (Put line Before) = true
is_kept here (Put line Instead) = not here
is_kept here Delete = not here

-- This many lines precede the line at a position.
pub record Counts (memory : RegisterMap) (at count : ℕ) : Type 0 where
  pub first : ListedLine
  pub lines : List ListedLine
  pub stands : FirstFrom (program_bytes memory) (final_position memory) at first
  pub from : LinesFrom memory 0 lines
  pub is : count ≡ count_before first.position lines

-- The line that was found, without the position after it.
abbrev pub listed_of : Option Found → Option ListedLine
listed_of found = option_map (λ each. each.listed) found

-- A packer has the changed lines. It is refused if the list does not reach .END. or has no line at
-- the position.
abbrev pub PacksChanged : RegisterMap → (ListedLine → List Line) → ℕ → Result Packer ProgramRefusal
    → Type 0
PacksChanged memory change position result =
    (lines : List ListedLine) × LinesFrom memory 0 lines
    × MatchBool (is_some (before_end lines) && has_line_at position lines)
    (IsOkAnd result (λ packer. Packs packer (flat_map change lines))) (result ≡ Err BrokenProgram)
