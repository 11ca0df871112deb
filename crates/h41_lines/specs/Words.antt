-- The words of a line.
use Rattle.std.specs.Prelude.{ℕ, Bool, ◌||◌, List, length, filter, nat_lt, ◌==◌}
use Rattle.std.specs.List.{slice_split}

-- A byte that separates words: a space or a tab.
abbrev pub is_blank : ℕ → Bool
is_blank byte = byte == 32 || byte == 9

-- The words of a line: its parts between separators, without empty ones.
abbrev pub words_of : List ℕ → List (List ℕ)
words_of line = filter (λ word. nat_lt 0 (length word)) (slice_split is_blank line)
