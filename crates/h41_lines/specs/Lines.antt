-- The lines of a text.
use Rattle.std.specs.Prelude.{ℕ, ◌-◌, List, length, take, ◌==◌}
use Rattle.std.specs.List.{after_last}
use Rattle.std.specs.Str.Lines as text

-- The lines of a text: each ends with LF. A CR directly before the LF is removed, and the last LF
-- may be missing.
abbrev pub lines : List ℕ → List (List ℕ)
lines bytes = text.lines bytes

-- The bytes up to and including the last LF.
abbrev pub ended_lines : List ℕ → List ℕ
ended_lines bytes = take (length bytes - length (after_last (λ byte. byte == 10) bytes)) bytes
