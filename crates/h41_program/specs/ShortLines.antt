-- Short lines of memory: lines of one to three bytes that contain no characters.
use Rattle.std.specs.Prelude.{ℕ, slice_range}
use Rattle.h41_codes.specs.ShortLines.{BeginsNoShort, line_of}
use Rattle.h41_codes.specs.declared.short_lines.ShortLine.{ShortLine}
use Rattle.h41_program.specs.ProgramBytes.{final_position, program_bytes}
use Rattle.h41_program.specs.ProgramLines.{HasFirst, PositionFrom}
use Rattle.h41_ram.specs.RegisterMap.{RegisterMap}

-- Memory has this short line with its first byte at a position. The next position is that of the
-- first line after it, or of the byte just after it if no line follows.
abbrev pub HasShort : RegisterMap → ℕ → ShortLine → ℕ → Type 0
HasShort memory at line next =
    (behind : ℕ)
    × HasFirst memory at
    (record { listed = record { position = at; line = line_of line }; behind = behind })
    × PositionFrom memory behind next

-- The bytes from a position to the last three begin with no short line.
abbrev pub HasNoShort : RegisterMap → ℕ → Type 0
HasNoShort memory at =
    BeginsNoShort (slice_range (program_bytes memory) at (final_position memory))
