-- Which lines of a deck are skipped, are too long, or end a block. The language is this project's
-- own.
use Rattle.std.specs.Prelude.{ℕ, Bool, not, ◌&&◌, ◌||◌, List, [], ◌∷◌, length, slice_index, nat_lt}
use Rattle.std.specs.Prelude.{◌==◌, codes, bytes_eq, false}
use Rattle.h41_lines.specs.Words.{words_of}

-- The most bytes of a line.
abbrev pub longest_line : ℕ
longest_line = 200

-- A line with more bytes is too long.
abbrev pub is_long : List ℕ → Bool
is_long line = nat_lt longest_line (length line)

-- The most words of a line of 200 bytes: each word has a byte, and there is a separator between
-- two. So there is room for the keys that a line names.
abbrev pub key_room : ℕ
key_room = 100

-- A line that is skipped: one without a word, or a comment, whose first byte is '#'.
abbrev pub is_skipped : List ℕ → Bool
is_skipped line = length (words_of line) == 0 || slice_index line 0 == 35

-- A line whose only word is 'end' ends a block.
abbrev pub is_only_end : List (List ℕ) → Bool
is_only_end [] = false
is_only_end (name ∷ []) = bytes_eq name (codes "end")
is_only_end (name ∷ other ∷ others) = false

-- The line that ends a block: its only word is `end`, and it is not too long.
abbrev pub is_end : List ℕ → Bool
is_end line = not (is_long line) && is_only_end (words_of line)
