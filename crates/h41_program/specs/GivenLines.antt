-- The first line of given bytes.
use Rattle.std.specs.Prelude.{ℕ, List, length}
use Rattle.h41_program.specs.FirstLines.{IsFirst, NoneFrom}
use Rattle.h41_program.specs.declared.given.Taken.{Taken}

-- Bytes have this line as the first one from a position on.
abbrev pub BytesHaveFirst : List ℕ → ℕ → Taken → Type 0
BytesHaveFirst bytes at taken =
    IsFirst bytes (length bytes) at (record { position = taken.position; line = taken.line })
    taken.behind

-- Bytes have no line from a position on.
abbrev pub BytesHaveNone : List ℕ → ℕ → Type 0
BytesHaveNone bytes at = NoneFrom bytes (length bytes) at
