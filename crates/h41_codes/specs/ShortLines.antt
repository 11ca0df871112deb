-- Short lines: lines of one to three bytes that contain no characters.
use Rattle.std.specs.Prelude.{◌≡◌, ℕ, List, ◌∷◌}
use Rattle.h41_codes.specs.ByteGrammar.{Begins}
use Rattle.h41_codes.specs.declared.line.Line.{Line}
use Rattle.h41_codes.specs.declared.line.Line.TheVariants as lines
use Rattle.h41_codes.specs.declared.short_lines.ShortLine.{ShortLine}
use Rattle.h41_codes.specs.declared.short_lines.ShortLine.TheVariants as short

-- A short line as a line.
abbrev pub line_of : ShortLine → Line
line_of (short.LocalLabel label) = lines.LocalLabel label
line_of (short.Register function register) = lines.Register function register
line_of (short.Plain function) = lines.Plain function
line_of (short.WithOperand function operand) = lines.WithOperand function operand
line_of (short.Module number entry) = lines.Module number entry
line_of (short.BranchIndirect branch register) = lines.BranchIndirect branch register
line_of (short.ShortGoTo label distance) = lines.ShortGoTo label distance
line_of (short.BranchTo branch distance backwards label) =
    lines.BranchTo branch distance backwards label

-- Bytes begin with no short line.
abbrev pub BeginsNoShort : List ℕ → Type 0
BeginsNoShort bytes = (one : ShortLine) (size : ℕ) → Begins bytes (line_of one) size → ⊥

-- All short lines that begin with this first byte have this many bytes.
abbrev pub BeginsShorts : ℕ → ℕ → Type 0
BeginsShorts first size =
    (rest : List ℕ) (line : ShortLine) (count : ℕ) → Begins (first ∷ rest) (line_of line) count
    → count ≡ size
