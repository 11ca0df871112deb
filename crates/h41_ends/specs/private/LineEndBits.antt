-- Which of the first bytes of a text end a line, as the bits of a number.
use Rattle.std.specs.Prelude.{◌≡◌, ◌↔◌, ◌<◌, ℕ, List, slice_index}
use Rattle.std.specs.Int.{bit_at}

-- How many bytes are compared at once.
abbrev pub lanes : ℕ
lanes = 16

-- Bit k is set exactly if byte k of the text ends a line (LF).
abbrev pub MarksEnds : List ℕ → ℕ → Type 0
MarksEnds text bits = (k : ℕ) → k < lanes → (bit_at bits k ≡ 1) ↔ (slice_index text k ≡ 10)
