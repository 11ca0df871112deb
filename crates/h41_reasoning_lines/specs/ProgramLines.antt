-- Lines in program memory, as a theorem about a program requires them.
use Rattle.std.specs.Prelude.{◌≡◌, ℕ, Bool, ◌||◌, List, [], ◌∷◌, ◌++◌, Some}
use Rattle.h41_codes.specs.ByteGrammar.{spelling}
use Rattle.h41_codes.specs.declared.line.Line.{Line}
use Rattle.h41_program.specs.Edits.{lines_of}
use Rattle.h41_program.specs.Lines.{is_end, is_final_end}
use Rattle.h41_program.specs.ProgramLines.{AnswersOf, LinesFrom}
use Rattle.h41_program.specs.Searches.{named_in, position_of, start_in}
use Rattle.h41_program.specs.declared.listed_line.ListedLine.{ListedLine}
use Rattle.h41_ram.specs.RegisterMap.{RegisterMap}

-- The last line of a program: END, or .END. if the program is the last one in memory. Both return.
abbrev pub ends_program : Line → Bool
ends_program line = is_end line || is_final_end line

-- From a position on, memory has these lines. Others may follow them.
pub record HasProgram (memory : RegisterMap) (at : ℕ) (lines : List Line) : Type 0 where
  pub listed : List ListedLine
  pub others : List Line
  pub from : LinesFrom memory at listed
  pub are : lines_of listed ≡ lines ++ others

-- A program begins at a position, after an END or as the first one, and these are its first lines.
pub record IsProgram (memory : RegisterMap) (at : ℕ) (lines : List Line) : Type 0 where
  pub has : HasProgram memory at lines
  pub begins : AnswersOf (start_in at) memory 0 at

-- The bytes of lines.
abbrev pub bytes_of_lines : List Line → List ℕ
bytes_of_lines [] = []
bytes_of_lines (line ∷ lines) = spelling line ++ bytes_of_lines lines

-- GTO and XEQ with this name lead to this position: that of the last LBL with this name in memory.
abbrev pub FindsName : RegisterMap → List ℕ → ℕ → Type 0
FindsName memory name at = AnswersOf (λ lines. position_of (named_in name lines)) memory 0 (Some at)
