-- What the first line of an item is, by its length and its first word.
use Rattle.std.specs.Prelude.{ℕ, Bool, true, false, List, [], ◌∷◌, Option, Some, None}
use Rattle.std.specs.Prelude.{if◌then◌else◌, ◌+◌, not, drop}
use Rattle.std.specs.List.{position_or_len}
use Rattle.h41_commands.specs.declared.commands.BlockKind.{BlockKind}
use Rattle.h41_commands.specs.declared.commands.FirstWord.{FirstWord}
use Rattle.h41_commands.specs.declared.commands.FirstWord.TheVariants.{Opening, Plain, Unknown}
use Rattle.h41_commands.specs.declared.commands.PlainKind.{PlainKind}
use Rattle.h41_commands.specs.declared.line.FirstLine.{FirstLine}
use Rattle.h41_commands.specs.declared.line.LineKind.{LineKind}
use Rattle.h41_commands.specs.declared.line.LineKind.TheVariants.{Long, Named}
use Rattle.h41_commands.specs.Commands.{kind_of_word, plain_of_word}
use Rattle.h41_commands.specs.DeckLines.{is_long, is_skipped}
use Rattle.h41_lines.specs.Words.{is_blank, words_of}

-- A word opens a block, or is the name of another command, or is unknown.
abbrev pub word_by : Option BlockKind → Option PlainKind → FirstWord
word_by (Some kind) plain = Opening kind
word_by None (Some kind) = Plain kind
word_by None None = Unknown

-- What the first word of a line names.
abbrev pub first_word : List ℕ → FirstWord
first_word name = word_by (kind_of_word name) (plain_of_word name)

-- A line by its words.
abbrev pub kind_by_words : List (List ℕ) → Option LineKind
kind_by_words [] = None
kind_by_words (name ∷ operands) = Some (Named (first_word name))

-- A line is too long, or is skipped, or has a first word.
abbrev pub line_kind : List ℕ → Option LineKind
line_kind line =
    if is_long line then Some Long
    else (if is_skipped line then None else kind_by_words (words_of line))

-- Whether the line opens a block.
abbrev pub opens_block : LineKind → Bool
opens_block Long = false
opens_block (Named (Opening kind)) = true
opens_block (Named (Plain kind)) = false
opens_block (Named Unknown) = false

-- How many bytes are before the first word of a line.
abbrev pub name_start : List ℕ → ℕ
name_start line = position_or_len (λ byte. not (is_blank byte)) line

-- How many bytes there are up to the end of the first word: up to the first space or tab after it,
-- or the end of the line.
abbrev pub name_end : List ℕ → ℕ
name_end line = name_start line + position_or_len is_blank (drop (name_start line) line)

-- What a line is, with the end of its first word.
abbrev pub first_line_as : List ℕ → LineKind → FirstLine
first_line_as line Long = record { kind = Long; name_end = 0 }
first_line_as line (Named word) = record { kind = Named word; name_end = name_end line }

-- What a line is, with the end of its first word; none if the line is skipped.
abbrev pub first_line_by : List ℕ → Option LineKind → Option FirstLine
first_line_by line None = None
first_line_by line (Some kind) = Some (first_line_as line kind)

-- The first line of an item; none if the line is skipped.
abbrev pub first_line : List ℕ → Option FirstLine
first_line line = first_line_by line (line_kind line)
