-- Laws of the text of lines.
use Rattle.std.specs.Prelude.{◌≡◌, ◌≤◌, ℕ, List, length}
use Rattle.h41_codes.specs.declared.line.Line.{Line}
use Rattle.h41_codes.specs.ByteGrammar.{spelling}
use Rattle.h41_codes.specs.Canon.{canonical_line}
use Rattle.h41_text.specs.LineReading.{HasText, IsTextOf}
use Rattle.h41_text.specs.LineText.{line_text}

-- A line and its canonical line have the same text.
abbrev pub SameText : Type 0
SameText = (line : Line) → line_text (canonical_line line) ≡ line_text line

-- The line text round trip: the text of a line is read as its canonical line. The null has no text.
abbrev pub LineTextRoundTrip : Type 0
LineTextRoundTrip = (line : Line) → HasText line → IsTextOf (line_text line) (canonical_line line)

-- A text is read as one line at most.
abbrev pub OneLineOfText : Type 0
OneLineOfText =
    (text : List ℕ) (line other : Line) → IsTextOf text line → IsTextOf text other → line ≡ other

-- Of all lines with the same text, the canonical line has the fewest bytes.
abbrev pub CanonicalIsShortestOfText : Type 0
CanonicalIsShortestOfText =
    (line other : Line) → HasText line → HasText other → line_text line ≡ line_text other
    → length (spelling (canonical_line line)) ≤ length (spelling other)
