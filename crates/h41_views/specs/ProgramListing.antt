-- What `show lines` prints: the lines of program memory. The form is this project's choice.
use Rattle.std.specs.Prelude.{◌≡◌, ℕ, ◌/◌, ◌%◌, ◌++◌, List, flat_map, codes}
use Rattle.h41_lines.specs.Characters.{two_digits}
use Rattle.h41_program.specs.declared.listed_line.ListedLine.{ListedLine}
use Rattle.h41_program.specs.ProgramLines.{LinesFrom}
use Rattle.h41_ram.specs.RegisterMap.{RegisterMap}
use Rattle.h41_text.specs.LineText as text

-- The last four decimal digits of a position in program memory.
abbrev pub byte_digits : ℕ → List ℕ
byte_digits byte = two_digits (byte / 100 % 100) ++ two_digits (byte % 100)

-- A line of the listing: its position and its text.
unfoldable pub listed_line : ListedLine → List ℕ
listed_line listed =
    byte_digits listed.position ++ codes " " ++ text.line_text listed.line ++ codes "\n"

-- The lines of memory from the first on. Memory that is not sound has none.
abbrev pub ListsProgram : RegisterMap → List ℕ → Type 0
ListsProgram memory listing =
    (lines : List ListedLine) × LinesFrom memory 0 lines × (listing ≡ flat_map listed_line lines)
