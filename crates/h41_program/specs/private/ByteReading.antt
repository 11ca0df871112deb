-- Reading successive bytes of program memory, each register only once.
use Rattle.std.specs.Prelude.{◌≡◌, ◌<◌, ◌≤◌, ℕ, ◌+◌, ◌-◌, ◌/◌, ◌%◌}
use Rattle.h41_ram.specs.RegisterMap.{RegisterMap, curtain_of, register_at}
use Rattle.h41_program.specs.declared.reading.ByteReader.{ByteReader}

-- The next byte of a reader is the one at a position: `left` bytes remain up to the end of a
-- register, and if there are any, the reader contains that register.
pub record ReadsAt (memory : RegisterMap) (position : ℕ) (reader : ByteReader) : Type 0 where
  pub few : reader.left ≤ 7
  pub ends : (position + reader.left) % 7 ≡ 0
  pub held : 0 < reader.left
      → reader.register ≡ register_at memory (curtain_of memory - 1 - position / 7)
