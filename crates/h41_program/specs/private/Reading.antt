-- Definitions for the private functions that read program memory, and for those of h41_walk.
use Rattle.std.specs.Prelude.{◌≡◌, ◌≤◌, ◌<◌, ℕ, ◌+◌, ◌-◌, ◌/◌, false, MatchBool, List}
use Rattle.std.specs.Prelude.{if◌then◌else◌, map, min}
use Rattle.std.specs.List.{range_with_len}
use Rattle.h41_digits.specs.Register.{number_byte}
use Rattle.h41_ram.specs.RegisterMap.{RegisterMap, curtain_of, register_at}
use Rattle.h41_codes.specs.declared.line.Line.{Line}
use Rattle.h41_program.specs.declared.listed_line.ListedLine.{ListedLine}
use Rattle.h41_codes.specs.ByteGrammar.{Begins}
use Rattle.h41_program.specs.declared.reading.Found.{Found}
use Rattle.h41_program.specs.declared.reading.LinePlace.{LinePlace}
use Rattle.h41_program.specs.Lines.{is_end, is_final_end}
use Rattle.h41_program.specs.ProgramBytes.{byte_count, program_byte}
use Rattle.h41_program.specs.ProgramLines.{LinesFrom}
use Rattle.h41_program.specs.Sources.{HasFirst, PositionFrom, Source}

-- A line ends neither a program nor memory.
abbrev pub EndsNothing : Line → Type 0
EndsNothing line = (false ≡ is_end line) × (false ≡ is_final_end line)

-- The position of the line after a line that was found, or of the byte just after it if no line
-- follows.
abbrev pub FoundBehind : Source → Found → ℕ → Type 0
FoundBehind source found position =
    MatchBool (source.ends found.listed.line)
    (position ≡ (if source.stays then found.listed.position else found.behind))
    (PositionFrom source found.behind position)

-- A fact about the first line from a position on, which is at a place.
abbrev pub OfPlace : Source → ℕ → LinePlace → (Line → Type 0) → Type 0
OfPlace source at place holds =
    (line : Line)
    → HasFirst source at
    (record { listed = record { position = place.position; line = line }; behind = place.behind })
    → holds line

-- An answer is that of every list of lines from a position on.
abbrev pub AnswersFrom : {A : Type 0} → (List ListedLine → A) → RegisterMap → ℕ → A → Type 0
AnswersFrom answer memory at result =
    (lines : List ListedLine) → LinesFrom memory at lines → result ≡ answer lines

-- The register that contains the byte at a position. At the end of program memory it is the one
-- below the last.
abbrev pub register_holding : RegisterMap → ℕ → List ℕ
register_holding memory position = register_at memory (curtain_of memory - 1 - position / 7)

-- A number contains the eight bytes from a position on, the first one as its highest byte, as far
-- as program memory has them.
abbrev pub HoldsBytes : RegisterMap → ℕ → ℕ → Type 0
HoldsBytes memory at number =
    (k : ℕ) → k < 8 → at + k < byte_count memory
    → number_byte number (7 - k) ≡ program_byte memory (at + k)

-- The bytes from one position to another, at most the first 18 of them.
abbrev pub bytes_seen : RegisterMap → ℕ → ℕ → List ℕ
bytes_seen memory at limit = map (program_byte memory) (range_with_len at (min 18 (limit - at)))

-- The bytes from one position to another begin with a line of this many bytes that ends nothing.
abbrev pub BeginsSized : RegisterMap → ℕ → ℕ → ℕ → Type 0
BeginsSized memory at limit size =
    (line : Line) × Begins (bytes_seen memory at limit) line size × EndsNothing line

-- The bytes begin with the line of a place at that position.
abbrev pub BeginsAt : RegisterMap → ℕ → ℕ → LinePlace → Type 0
BeginsAt memory at limit place =
    (line : Line) × (size : ℕ)
    × Begins (bytes_seen memory at limit) line size
    × (place ≡ record {
      position = at;
      behind = at + size;
      ends_program = is_end line;
      ends_memory = is_final_end line;
    })

-- No line is read at this position, whatever its length: its bytes begin none, or the limit cuts it
-- off.
abbrev pub BeginsNothing : RegisterMap → ℕ → ℕ → Type 0
BeginsNothing memory at limit =
    (line : Line) (size : ℕ) → Begins (bytes_seen memory at limit) line size → ⊥

-- There are this many bytes from one position to another: this is the place of a line that ends
-- nothing.
pub record Fits (memory : RegisterMap) (at limit size : ℕ) (place : LinePlace) : Type 0 where
  pub inside : at + size ≤ limit
  pub bytes : (k : ℕ) → at ≤ k → k < at + size → program_byte memory k < 256
  pub is : place ≡ record {
    position = at;
    behind = at + size;
    ends_program = false;
    ends_memory = false;
  }
