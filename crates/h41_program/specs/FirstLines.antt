-- The first line from a position on in a list of bytes, and the lines that are read in turn from
-- there. Nulls before a line are skipped. How bytes that are no line are treated is this project's
-- choice.
use Rattle.std.specs.Prelude.{◌≡◌, ◌≢◌, ℕ, ◌+◌, ◌<◌, ◌≤◌, Bool, MatchBool, List, [], ◌∷◌, length}
use Rattle.std.specs.Prelude.{drop, slice_index, slice_range, nat_lt, ◌==◌, if◌then◌else◌}
use Rattle.h41_codes.specs.ByteGrammar.{spelling, Begins}
use Rattle.h41_codes.specs.declared.line.Line.{Line}
use Rattle.h41_codes.specs.declared.line.Line.TheVariants.{Null}
use Rattle.h41_program.specs.declared.listed_line.ListedLine.{ListedLine}

-- The bytes that a line at a position may take: those before the last three, or the last three if
-- the line begins there.
abbrev pub line_bytes : List ℕ → ℕ → ℕ → List ℕ
line_bytes bytes final position =
    if nat_lt position final then slice_range bytes position final
    else if position == final then drop position bytes
    else []

-- The position of the byte after a line.
abbrev pub behind : ListedLine → ℕ
behind listed = listed.position + length (spelling listed.line)

-- The first line from a position on. Only nulls precede it. `final` is the position of the last
-- three bytes.
pub record FirstFrom (bytes : List ℕ) (final at : ℕ) (first : ListedLine) : Type 0 where
  pub from : at ≤ first.position
  pub nulls : (k : ℕ) → at ≤ k → k < first.position → slice_index bytes k ≡ 0
  pub begins : Begins (line_bytes bytes final first.position)
      first.line (length (spelling first.line))
  pub not_null : first.line ≢ Null

-- There is no line from a position on.
abbrev pub NoneFrom : List ℕ → ℕ → ℕ → Type 0
NoneFrom bytes final at = (first : ListedLine) → FirstFrom bytes final at first → ⊥

-- This is the first line from a position on, and the only one. The next position is that of the
-- byte after it, at most the end of the bytes.
pub record IsFirst (bytes : List ℕ) (final at : ℕ) (listed : ListedLine) (next : ℕ) : Type 0 where
  pub first : FirstFrom bytes final at listed
  pub one : (other : ListedLine) → FirstFrom bytes final at other → other ≡ listed
  pub behind : next ≡ behind listed
  pub inside : next ≤ length bytes
  pub onward : at < next

-- The lines from a position on, if some lines end a list. There is none, or there are the first one
-- and, unless it ends the list, those after it.
abbrev pub ReadsTo : (Line → Bool) → List ℕ → ℕ → ℕ → List ListedLine → Type 0
ReadsTo ends bytes final at [] = NoneFrom bytes final at
ReadsTo ends bytes final at (first ∷ rest) =
    FirstFrom bytes final at first
    × MatchBool (ends first.line) (rest ≡ []) (ReadsTo ends bytes final (behind first) rest)
