-- Program memory as a list of lines with their positions. Lines are read from a position on, with
-- nulls skipped, up to and including the first .END., or up to bytes that are no line. The form of
-- memory is HP's.
use Rattle.std.specs.Prelude.{◌≡◌, ℕ, true, IsTrue, IsFalse}
use Rattle.std.specs.Prelude.{List, [], ◌∷◌, if◌then◌else◌, Result, Ok, Err}
use Rattle.h41_codes.specs.declared.line.Line.{Line}
use Rattle.h41_ram.specs.RegisterMap.{RegisterMap, is_sound}
use Rattle.h41_program.specs.FirstLines.{ReadsTo, behind}
use Rattle.h41_program.specs.Lines.{is_final_end}
use Rattle.h41_program.specs.ProgramBytes.{program_bytes, final_position}
use Rattle.h41_program.specs.Sources as sources
use Rattle.h41_program.specs.Sources.{Source}
use Rattle.h41_program.specs.declared.listed_line.ListedLine.{ListedLine}
use Rattle.h41_program.specs.declared.reading.Found.{Found}
use Rattle.h41_program.specs.declared.reading.LinePlace.{LinePlace}
use Rattle.h41_program.specs.declared.refusal.ProgramRefusal.{ProgramRefusal}
use Rattle.h41_program.specs.declared.refusal.ProgramRefusal.TheVariants.{BrokenProgram}

-- Memory as a place that contains program lines. They are read up to .END., which is followed by
-- itself.
abbrev pub memory_source : RegisterMap → Source
memory_source memory = record {
  bytes = program_bytes memory;
  final = final_position memory;
  ends = is_final_end;
  stays = true;
}

-- Memory has this line as the first one from a position on, followed by the byte at this position.
abbrev pub HasFirst : RegisterMap → ℕ → Found → Type 0
HasFirst memory at found = sources.HasFirst (memory_source memory) at found

-- Memory has its first line from a position on at this place, which also says whether the line ends
-- a program or memory.
abbrev pub HasPlace : RegisterMap → ℕ → LinePlace → Type 0
HasPlace memory at place = sources.HasPlace (memory_source memory) at place

-- Memory has no line from a position on.
abbrev pub HasNoLine : RegisterMap → ℕ → Type 0
HasNoLine memory at = sources.HasNoLine (memory_source memory) at

-- The lines from a position on, up to .END.
abbrev pub Reads : List ℕ → ℕ → ℕ → List ListedLine → Type 0
Reads bytes final at lines = ReadsTo is_final_end bytes final at lines

-- The lines of memory from a position on. Memory that is not sound has none.
pub record LinesFrom (memory : RegisterMap) (at : ℕ) (lines : List ListedLine) : Type 0 where
  pub sound : IsTrue (is_sound memory) → sources.LinesFrom (memory_source memory) at lines
  pub lost : IsFalse (is_sound memory) → lines ≡ []

-- The first of the lines from a position on, or BrokenProgram (14) if there is none.
abbrev pub line_of : List ListedLine → Result ListedLine ProgramRefusal
line_of [] = Err BrokenProgram
line_of (first ∷ rest) = Ok first

-- The position of the second line, or of the byte after the first one if there is no second. .END.
-- is followed by itself.
abbrev pub next_of : List ListedLine → Result ℕ ProgramRefusal
next_of [] = Err BrokenProgram
next_of (first ∷ []) = Ok (if is_final_end first.line then first.position else behind first)
next_of (first ∷ second ∷ rest) = Ok second.position

-- The answer is the first line from a position on, or BrokenProgram (14) if there is none.
abbrev pub AnswersFirst : RegisterMap → ℕ → Result ListedLine ProgramRefusal → Type 0
AnswersFirst memory at result = sources.AnswersLine (memory_source memory) at result

-- The position of the first line from a position on, or that position if no line follows.
abbrev pub PositionFrom : RegisterMap → ℕ → ℕ → Type 0
PositionFrom memory at position = sources.PositionFrom (memory_source memory) at position

-- The position of the line after a line, or of the byte just after it if no line follows. .END. is
-- followed by itself.
abbrev pub PositionBehind : RegisterMap → ListedLine → ℕ → Type 0
PositionBehind memory first position = sources.PositionBehind (memory_source memory) first position

-- The answer is the position after the first line from a position on, or BrokenProgram (14) if
-- there is none.
abbrev pub AnswersNext : RegisterMap → ℕ → Result ℕ ProgramRefusal → Type 0
AnswersNext memory at result = sources.AnswersNext (memory_source memory) at result

-- The answer is the first line from a position on with the position after it, or BrokenProgram (14)
-- if there is none.
abbrev pub AnswersBoth : RegisterMap → ℕ → Result (Line × ℕ) ProgramRefusal → Type 0
AnswersBoth memory at result = sources.AnswersBoth (memory_source memory) at result

-- The answer is that for the list of lines from a position on.
abbrev pub AnswersOf : {A : Type 0} → (List ListedLine → A) → RegisterMap → ℕ → A → Type 0
AnswersOf answer memory at result =
    (lines : List ListedLine) × LinesFrom memory at lines × (result ≡ answer lines)
