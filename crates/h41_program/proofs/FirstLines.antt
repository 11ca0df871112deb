-- The first line from a position on, after nulls are skipped.
use Rattle.std.proofs.Common.{◌≡◌, ◌≢◌, ℕ, ◌<◌, ◌≤◌, List, [], length, drop, get_or}
use Rattle.std.proofs.Common.{arith, rules}
use Rattle.std.specs.Prelude.{slice_range}
use Rattle.std.proofs.lemmas.List.{get_or-drop, get_or-take, length-drop, length-take, take-append-drop}
use Rattle.std.proofs.lemmas.Bool.Decides.{nat_tests}
use Rattle.h41_codes.specs.ByteGrammar.{Begins}
use Rattle.h41_codes.specs.ByteLaws.{OneLine}
use Rattle.h41_codes.specs.declared.line.Line.{Line}
use Rattle.h41_codes.specs.declared.line.Line.TheVariants.{Null}
use Rattle.h41_program.specs.declared.listed_line.ListedLine.{ListedLine}
use Rattle.h41_program.specs.FirstLines.{line_bytes, FirstFrom}
use Rattle.h41_program.proofs.Windows.{begins_count, begins_least}
use Rattle.std.proofs.lemmas.Grind.{common_steps}

-- The three cases of the bytes that a line may take.
pub line_bytes-below : (bytes : List ℕ) (final position : ℕ) → position < final
    → line_bytes bytes final position ≡ slice_range bytes position final
line_bytes-below bytes final position below = search (rules, nat_tests)

pub line_bytes-at : (bytes : List ℕ) (final : ℕ) → line_bytes bytes final final ≡ drop final bytes
line_bytes-at bytes final = search (rules, nat_tests)

pub line_bytes-above : (bytes : List ℕ) (final position : ℕ) → final < position → line_bytes bytes final position ≡ []
line_bytes-above bytes final position above = search (rules, nat_tests)

-- An empty list of bytes begins with no line.
nothing : (line : Line) (count : ℕ) → Begins [] line count → ⊥
nothing line count begins = search (rules, begins_least)

-- A line begins at the last three bytes or before them.
pub first_inside : (bytes : List ℕ) (final at : ℕ) (first : ListedLine) → FirstFrom bytes final at first → first.position ≤ final
first_inside bytes final at first is = search (rules, nothing, line_bytes-above)

-- The first byte that a line may take is the one at its position.
pub first_byte : (bytes : List ℕ) (final position : ℕ) → position ≤ final
    → get_or (line_bytes bytes final position) 0 0 ≡ get_or bytes position 0
first_byte bytes final position inside = search (rules, line_bytes-below, get_or-take, get_or-drop, line_bytes-at)

-- Before the last three bytes there is a byte to read.
pub some_byte : (bytes : List ℕ) (final position : ℕ) → position < final → final ≤ length bytes
    → 1 ≤ length (line_bytes bytes final position)
some_byte bytes final position below inside = search (rules, line_bytes-below, length-take, length-drop)

-- A byte 00 begins the null.
pub null_begins : (bytes : List ℕ) → 1 ≤ length bytes → get_or bytes 0 0 ≡ 0 → Begins bytes Null 1
null_begins bytes some null = search rules

-- A byte 00 begins no other line.
pub only_null : OneLine → (bytes : List ℕ) (line : Line) (count : ℕ) → 1 ≤ length bytes → get_or bytes 0 0 ≡ 0 → Begins bytes line count
    → line ≡ Null
only_null one bytes line count some null begins = (one bytes line Null count 1 begins (null_begins bytes some null)).0

-- Nulls were skipped up to a position.
pub record Passed (bytes : List ℕ) (final at position : ℕ) : Type 0 where
  pub from : at ≤ position
  pub to : position ≤ final
  pub nulls : (k : ℕ) → at ≤ k → k < position → get_or bytes k 0 ≡ 0
  pub stop : position < final → get_or bytes position 0 ≢ 0
  pub inside : final ≤ length bytes

-- The first line is at that position, and nowhere else.
pub stands_there : OneLine → (bytes : List ℕ) (final at position : ℕ) → Passed bytes final at position → (first : ListedLine)
    → FirstFrom bytes final at first → first.position ≡ position
stands_there one bytes final at position passed first is =
    grind (arith, common_steps, only_null, some_byte, first_byte, first_inside)

-- The first byte of the null is 00.
pub null_byte : (bytes : List ℕ) (line : Line) (count : ℕ) → Begins bytes line count → line ≡ Null → get_or bytes 0 0 ≡ 0
null_byte bytes line count begins null = search (rules, take-append-drop, null_begins)

pub found_first : (bytes : List ℕ) (final at position : ℕ) (line : Line) (count : ℕ) → Passed bytes final at position
    → get_or bytes position 0 ≢ 0 → Begins (line_bytes bytes final position) line count
    → FirstFrom bytes final at (record { position = position; line = line })
found_first bytes final at position line count passed other begins = search (rules, begins_count, first_byte, null_byte)
