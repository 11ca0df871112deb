-- The bytes of program memory. A register has seven, the leftmost first. They begin in the register
-- below the curtain and end in the register of .END., which is in the last three bytes. A position
-- is the number of bytes before a byte, so that the first byte has position 0.
use Rattle.std.specs.Prelude.{ℕ, ◌-◌, ◌*◌, ◌/◌, ◌%◌, List, map}
use Rattle.std.specs.List.{range_with_len}
use Rattle.h41_digits.specs.Register.{byte_at}
use Rattle.h41_ram.specs.RegisterMap.{RegisterMap, register_at, curtain_of, end_of}

-- The number of bytes.
abbrev pub byte_count : RegisterMap → ℕ
byte_count memory = 7 * (curtain_of memory - end_of memory)

-- The byte at a position. The leftmost byte of a register is its byte 6.
abbrev pub program_byte : RegisterMap → ℕ → ℕ
program_byte memory position =
    byte_at (register_at memory (curtain_of memory - 1 - position / 7)) (6 - position % 7)

-- All bytes.
abbrev pub program_bytes : RegisterMap → List ℕ
program_bytes memory = map (program_byte memory) (range_with_len 0 (byte_count memory))

-- The position of the last three bytes.
abbrev pub final_position : RegisterMap → ℕ
final_position memory = byte_count memory - 3
