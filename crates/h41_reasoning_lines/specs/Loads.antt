-- Programs that the bench has loaded into memory.
use Rattle.std.specs.Prelude.{◌≡◌, ℕ, true, false, List, [], ◌∷◌, ◌++◌, length, Some, Ok}
use Rattle.h41_codes.specs.declared.line.Line.{Line}
use Rattle.h41_codes.specs.declared.line.Line.TheVariants.{FinalEnd}
use Rattle.h41_program.specs.Edits.{Loads, before_end, is_open, loaded_of}
use Rattle.h41_program.specs.ProgramLaws.{HasLines}
use Rattle.h41_program.specs.ProgramLines.{LinesFrom, Reads}
use Rattle.h41_program.specs.declared.listed_line.ListedLine.{ListedLine}
use Rattle.h41_ram.specs.RegisterMap.{RegisterMap, is_sound}
use Rattle.h41_reasoning_lines.specs.ProgramLines.{IsProgram}

-- Bytes are read as these lines. An END or .END. at the end of the bytes does not count.
abbrev pub AreBytesOf : List Line → List ℕ → Type 0
AreBytesOf lines bytes =
    (given : List ListedLine)
    × Reads bytes (length bytes) 0 given
    × (loaded_of bytes given ≡ Some lines)

-- After a load, memory has the lines of the bytes and .END. as a program. It is the last program in
-- memory.
abbrev pub LoadedIsProgram : Type 0
LoadedIsProgram =
    (memory new : RegisterMap) (bytes : List ℕ) (start : ℕ) (lines : List Line)
    → Loads memory new bytes (Ok start) → AreBytesOf lines bytes
    → (at : ℕ) × IsProgram new at (lines ++ FinalEnd 0 0 ∷ [])

-- Memory has no program lines.
abbrev pub HasNoProgram : RegisterMap → Type 0
HasNoProgram memory =
    (lines : List ListedLine) × LinesFrom memory 0 lines × (before_end lines ≡ Some [])

-- If memory had no program lines, the program begins at the position that the load returns, 0.
abbrev pub FirstLoadedIsProgram : Type 0
FirstLoadedIsProgram =
    (memory new : RegisterMap) (bytes : List ℕ) (start : ℕ) (lines : List Line)
    → HasNoProgram memory → Loads memory new bytes (Ok start) → AreBytesOf lines bytes
    → (start ≡ 0) × IsProgram new start (lines ++ FinalEnd 0 0 ∷ [])

-- Lines of memory are a program if an END is before them, or nothing. So a program is still one if
-- others are loaded after it.
abbrev pub PartsArePrograms : Type 0
PartsArePrograms =
    (memory : RegisterMap) (front lines others : List Line) → is_sound memory ≡ true
    → HasLines memory 0 (front ++ (lines ++ others)) → is_open front ≡ false
    → (at : ℕ) × IsProgram memory at lines
