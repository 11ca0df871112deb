-- The bytes of lines as program memory stores them: the bytes of each line, with a null between two
-- numbers, and .END. in the last three bytes of the last register, preceded by as few nulls as fill
-- the registers.
use Rattle.std.specs.Prelude.{ℕ, ◌+◌, ◌-◌, ◌%◌, ◌&&◌, List, [], ◌∷◌, ◌++◌, length, replicate}
use Rattle.std.specs.Prelude.{if◌then◌else◌, Option, Some, None}
use Rattle.h41_codes.specs.ByteGrammar.{spelling}
use Rattle.h41_codes.specs.declared.line.Line.{Line}
use Rattle.h41_program.specs.Lines.{is_number}

-- The last line.
abbrev pub last_line : List Line → Option Line
last_line [] = None
last_line (line ∷ []) = Some line
last_line (line ∷ next ∷ lines) = last_line (next ∷ lines)

-- A null separates a number from a number that follows.
abbrev pub gap : Line → List Line → List ℕ
gap line [] = []
gap line (next ∷ lines) = if is_number line && is_number next then 0x00 ∷ [] else []

-- The bytes of the lines alone.
abbrev pub packed_lines : List Line → List ℕ
packed_lines [] = []
packed_lines (line ∷ lines) = spelling line ++ gap line lines ++ packed_lines lines

-- How many nulls after this many bytes fill the registers, if three bytes for .END. follow.
abbrev pub filler : ℕ → ℕ
filler count = 6 - (count + 2) % 7

-- The bytes of .END. (this project's choice).
abbrev pub written_end : List ℕ
written_end = 0xC0 ∷ 0x00 ∷ 0x20 ∷ []

-- Bytes, the nulls that fill the registers, and .END.
abbrev pub filled_up : List ℕ → List ℕ
filled_up bytes = bytes ++ replicate (filler (length bytes)) 0x00 ++ written_end

-- The bytes of lines with these nulls and .END.
abbrev pub packing : List Line → List ℕ
packing lines = filled_up (packed_lines lines)
