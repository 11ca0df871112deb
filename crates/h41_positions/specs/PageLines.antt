-- The lines of a page are read from its keystroke code, up to an END or .END., which both end a
-- program there, to the end of the page, or to bytes that are no line. The start of a page's
-- program, and that a position at nulls has the line after them, are this project's choices.
use Rattle.std.specs.Prelude.{◌≡◌, ◌⊎◌, ℕ, ◌+◌, ◌*◌, ◌%◌, ◌<◌, ◌≤◌, Bool, IsTrue}
use Rattle.std.specs.Prelude.{List, length, slice_index, Option, is_some, Result}
use Rattle.std.specs.Option.{option_or}
use Rattle.h41_codes.specs.declared.line.Line.{Line}
use Rattle.h41_pages.specs.Addresses.{page_size}
use Rattle.h41_program.specs.Numbering.{number_in}
use Rattle.h41_program.specs.Searches.{label_in, position_of}
use Rattle.h41_program.specs.declared.listed_line.ListedLine.{ListedLine}
use Rattle.h41_program.specs.declared.refusal.ProgramRefusal.{ProgramRefusal}
use Rattle.h41_program.specs.Sources.{AnswersNext, PositionBehind, PositionFrom, ProgramFrom}
use Rattle.h41_program.specs.Sources.{bytes_source, is_program_end}
use Rattle.h41_program.specs.Sources as sources
use Rattle.h41_walk.specs.Searches.{AnswersProgram}

-- The lines that end a program of a page.
abbrev pub is_page_end : Line → Bool
is_page_end line = is_program_end line

-- The first line of keystroke code from an offset on.
abbrev pub IsFirstLine : List ℕ → ℕ → ListedLine → Type 0
IsFirstLine code at first = sources.IsFirstLine (bytes_source code) at first

-- There is no line from an offset on.
abbrev pub HasNoLine : List ℕ → ℕ → Type 0
HasNoLine code at = sources.HasNoLine (bytes_source code) at

-- All lines from an offset on, to the end of their program.
abbrev pub LinesIn : List ℕ → ℕ → List ListedLine → Type 0
LinesIn code at lines = ProgramFrom (bytes_source code) at lines

-- The answer is the first line from an offset on, or BrokenProgram (14) if there is none.
abbrev pub AnswersLine : List ℕ → ℕ → Result ListedLine ProgramRefusal → Type 0
AnswersLine code at answer = sources.AnswersLine (bytes_source code) at answer

-- The offset of the first line from an offset on, or that offset if no line follows.
abbrev pub OffsetFrom : List ℕ → ℕ → ℕ → Type 0
OffsetFrom code at offset = PositionFrom (bytes_source code) at offset

-- The offset of the line after a line, or the offset just after that line if no line follows or if
-- it ends its program.
abbrev pub OffsetBehind : List ℕ → ListedLine → ℕ → Type 0
OffsetBehind code first offset = PositionBehind (bytes_source code) first offset

-- The answer is the offset after the first line from an offset on, or BrokenProgram (14) if there
-- is none.
abbrev pub AnswersOffset : List ℕ → ℕ → Result ℕ ProgramRefusal → Type 0
AnswersOffset code at answer = AnswersNext (bytes_source code) at answer

-- A function of the page begins at or before an offset, and the lines from there on contain the
-- line at the offset.
pub record Reaches (code : List ℕ) (at begin : ℕ) : Type 0 where
  pub before : begin ≤ at
  pub first : ListedLine
  pub lines : List ListedLine
  pub stands : IsFirstLine code at first
  pub from : LinesIn code begin lines
  pub has : IsTrue (is_some (number_in first.position lines))

-- One of the offsets at which functions begin.
abbrev pub IsAmong : List ℕ → ℕ → Type 0
IsAmong begins begin = (k : ℕ) × (k < length begins) × (slice_index begins k ≡ begin)

-- The lowest start of a keystroke function from which the lines reach an offset.
abbrev pub IsLeast : List ℕ → List ℕ → ℕ → ℕ → Type 0
IsLeast code begins at start =
    IsAmong begins start
    × Reaches code at start
    × ((begin : ℕ) → IsAmong begins begin → Reaches code at begin → start ≤ begin)

-- No keystroke function reaches the offset.
abbrev pub NoneReaches : List ℕ → List ℕ → ℕ → Type 0
NoneReaches code begins at = (begin : ℕ) → IsAmong begins begin → Reaches code at begin → ⊥

-- The program of an offset begins at the lowest keystroke function that reaches it, or at the
-- offset itself if none does.
abbrev pub StartsAt : List ℕ → List ℕ → ℕ → ℕ → Type 0
StartsAt code begins at start =
    IsLeast code begins at start ⊎ (NoneReaches code begins at × (start ≡ at))

-- The answer for the program of an offset is that for the lines from the program's start on.
abbrev pub AnswersOwn : {A : Type 0} → (List ListedLine → A) → List ℕ → List ℕ → ℕ → A → Type 0
AnswersOwn answer code begins at result =
    AnswersProgram answer (bytes_source code) (StartsAt code begins) at result

-- The offset of LBL n for a search from an offset: the first one from there on, otherwise the first
-- one of the program.
pub record AnswersLabel (code begins : List ℕ) (at n : ℕ) (result : Option ℕ) : Type 0 where
  pub start : ℕ
  pub onward : List ListedLine
  pub own : List ListedLine
  pub starts : StartsAt code begins at start
  pub from : LinesIn code at onward
  pub program : LinesIn code start own
  pub is : result ≡ position_of (option_or (label_in n onward) (label_in n own))

-- The address of an offset of a page. Page 0 follows page F.
abbrev pub address_of : ℕ → ℕ → ℕ
address_of page offset = (page * page_size + offset) % 0x10000
