-- Laws of the byte grammar, and of the shortest spelling.
use Rattle.std.specs.Prelude.{◌≡◌, ℕ, ◌≤◌, ◌⊎◌, ◌↔◌, List, [], ◌++◌, length, slice_index}
use Rattle.h41_codes.specs.declared.line.Line.{Line}
use Rattle.h41_codes.specs.declared.line.Line.TheVariants.{Null, Number}
use Rattle.h41_codes.specs.ByteGrammar.{spelling, IsLine, GoesOn, IsComplete, Begins}
use Rattle.h41_codes.specs.Canon.{canonical_line}

-- The bytes of a line begin with that line, whatever follows. After a number of fewer than 16
-- characters no character of a number may follow, because it would belong to the number.
abbrev pub ByteRoundTrip : Type 0
ByteRoundTrip =
    (line : Line) (rest : List ℕ) → IsLine line → IsComplete line rest
    → Begins (spelling line ++ rest) line (length (spelling line))

-- Bytes begin with one line at most.
abbrev pub OneLine : Type 0
OneLine =
    (bytes : List ℕ) (line other : Line) (count size : ℕ) → Begins bytes line count
    → Begins bytes other size → (line ≡ other) × (count ≡ size)

-- Bytes begin with a line, or with none.
abbrev pub LineOrNone : Type 0
LineOrNone =
    (bytes : List ℕ)
    → ((line : Line) × (count : ℕ) × Begins bytes line count)
    ⊎ ((line : Line) (count : ℕ) → Begins bytes line count → ⊥)

-- The line is a number. A number is the only line that can begin another one.
abbrev pub IsNumber : Line → Type 0
IsNumber (Number characters) = Unit {0}
IsNumber line = ⊥

-- The bytes of a line that is no number are never the beginning of another line's bytes.
abbrev pub NoPrefix : Type 0
NoPrefix =
    (line other : Line) (rest : List ℕ) → IsLine line → IsLine other → (IsNumber line → ⊥)
    → spelling other ≡ spelling line ++ rest
    → (other ≡ line) × (rest ≡ [])

-- A line has 1 to 18 bytes.
abbrev pub LineHasBytes : Type 0
LineHasBytes =
    (line : Line) → IsLine line → (1 ≤ length (spelling line)) × (length (spelling line) ≤ 18)

-- The first byte of a line is 10 to 1C if and only if the line is a number.
abbrev pub NumberBegins : Type 0
NumberBegins =
    (line : Line) (rest : List ℕ) → IsLine line → GoesOn (spelling line ++ rest) ↔ IsNumber line

-- The first byte of a line is 00 if and only if the line is the null.
abbrev pub NullBegins : Type 0
NullBegins =
    (line : Line) (rest : List ℕ) → IsLine line
    → (slice_index (spelling line ++ rest) 0 ≡ 0x00) ↔ (line ≡ Null)

-- The canonical line is a line.
abbrev pub CanonicalIsLine : Type 0
CanonicalIsLine = (line : Line) → IsLine line → IsLine (canonical_line line)

-- The canonical line takes the fewest bytes of all lines with the same canonical line.
abbrev pub CanonicalIsShortest : Type 0
CanonicalIsShortest =
    (line other : Line) → canonical_line other ≡ canonical_line line
    → length (spelling (canonical_line line)) ≤ length (spelling other)

-- The canonical line is its own canonical line.
abbrev pub CanonicalOnce : Type 0
CanonicalOnce = (line : Line) → canonical_line (canonical_line line) ≡ canonical_line line
