-- Places that contain program lines, such as memory or a page, as far as reading their lines
-- depends on them, and the lines that are read there. The definitions are the same for each place.
use Rattle.std.specs.Prelude.{◌≡◌, ◌⊎◌, ℕ, false, Bool, MatchBool, ◌||◌, if◌then◌else◌}
use Rattle.std.specs.Prelude.{List, length, Result, Ok, Err}
use Rattle.h41_codes.specs.declared.line.Line.{Line}
use Rattle.h41_program.specs.FirstLines.{FirstFrom, IsFirst, NoneFrom, ReadsTo, behind}
use Rattle.h41_program.specs.Lines.{is_end, is_final_end}
use Rattle.h41_program.specs.declared.listed_line.ListedLine.{ListedLine}
use Rattle.h41_program.specs.declared.reading.Found.{Found}
use Rattle.h41_program.specs.declared.reading.LinePlace.{LinePlace}
use Rattle.h41_program.specs.declared.refusal.ProgramRefusal.{ProgramRefusal}
use Rattle.h41_program.specs.declared.refusal.ProgramRefusal.TheVariants.{BrokenProgram}

-- The code of a place.
pub record Source : Type 0 where
  -- the bytes; the first one has position 0
  pub bytes : List ℕ
  -- the position of the .END. of memory, which no line before it may reach; in a place without such
  -- a line it is the number of bytes
  pub final : ℕ
  -- the lines that end a list
  pub ends : Line → Bool
  -- whether the line that ends a list is followed by itself and not by the byte after it
  pub stays : Bool

-- The lines that end a program.
abbrev pub is_program_end : Line → Bool
is_program_end line = is_end line || is_final_end line

-- Bytes without an .END. at their end, each program of which has its own list.
abbrev pub bytes_source : List ℕ → Source
bytes_source bytes = record {
  bytes = bytes;
  final = length bytes;
  ends = is_program_end;
  stays = false;
}

-- The first line from a position on.
abbrev pub IsFirstLine : Source → ℕ → ListedLine → Type 0
IsFirstLine source at first = FirstFrom source.bytes source.final at first

-- There is no line from a position on.
abbrev pub HasNoLine : Source → ℕ → Type 0
HasNoLine source at = NoneFrom source.bytes source.final at

-- The first line from a position on, with the position of the byte after it.
abbrev pub HasFirst : Source → ℕ → Found → Type 0
HasFirst source at found = IsFirst source.bytes source.final at found.listed found.behind

-- The first line from a position on is at this place, which also says whether the line is an END or
-- .END.
abbrev pub HasPlace : Source → ℕ → LinePlace → Type 0
HasPlace source at place =
    (line : Line)
    × HasFirst source at
    (record { listed = record { position = place.position; line = line }; behind = place.behind })
    × (place.ends_program ≡ is_end line)
    × (place.ends_memory ≡ is_final_end line)

-- The lines from a position on, to the end of the list.
abbrev pub LinesFrom : Source → ℕ → List ListedLine → Type 0
LinesFrom source at lines = ReadsTo source.ends source.bytes source.final at lines

-- The lines from a position on, to the END or .END. of their program.
abbrev pub ProgramFrom : Source → ℕ → List ListedLine → Type 0
ProgramFrom source at lines = ReadsTo is_program_end source.bytes source.final at lines

-- The answer is the first line from a position on, or BrokenProgram (14) if there is none.
abbrev pub AnswersLine : Source → ℕ → Result ListedLine ProgramRefusal → Type 0
AnswersLine source at (Ok first) = IsFirstLine source at first
AnswersLine source at (Err refusal) = (refusal ≡ BrokenProgram) × HasNoLine source at

-- The position of the first line from a position on, or that position if no line follows.
abbrev pub PositionFrom : Source → ℕ → ℕ → Type 0
PositionFrom source at position =
    ((first : ListedLine) × IsFirstLine source at first × (position ≡ first.position))
    ⊎ (HasNoLine source at × (position ≡ at))

-- The position after a line that ends the list.
abbrev pub last_next : Source → ListedLine → ℕ
last_next source last = if source.stays then last.position else behind last

-- The position of the line after a line, or of the byte just after it if no line follows.
abbrev pub PositionBehind : Source → ListedLine → ℕ → Type 0
PositionBehind source first position =
    MatchBool (source.ends first.line) (position ≡ last_next source first)
    (PositionFrom source (behind first) position)

-- The answer is the position after the first line from a position on, or BrokenProgram (14) if
-- there is none.
abbrev pub AnswersNext : Source → ℕ → Result ℕ ProgramRefusal → Type 0
AnswersNext source at (Ok position) =
    (first : ListedLine) × IsFirstLine source at first × PositionBehind source first position
AnswersNext source at (Err refusal) = (refusal ≡ BrokenProgram) × HasNoLine source at

-- The answer is the first line from a position on with the position after it, or BrokenProgram (14)
-- if there is none.
abbrev pub AnswersBoth : Source → ℕ → Result (Line × ℕ) ProgramRefusal → Type 0
AnswersBoth source at (Ok both) =
    ((first : ListedLine) × AnswersLine source at (Ok first) × (first.line ≡ both.0))
    × AnswersNext source at (Ok both.1)
AnswersBoth source at (Err refusal) = AnswersLine source at (Err refusal)
