-- The commands that the lines of a deck specify. The state of the calculator plays no part. The
-- language is this project's own.
use Rattle.std.specs.Prelude.{ℕ, zero, suc, Bool, true, false, not, List, [], ◌∷◌, length, filter}
use Rattle.std.specs.Prelude.{if◌then◌else◌, Result, Ok, Err}
use Rattle.std.specs.List.{list_any, before_first, after_first}
use Rattle.h41_commands.specs.declared.commands.Command.{Command}
use Rattle.h41_commands.specs.declared.refusal.LineRefusal.{LineRefusal}
use Rattle.h41_commands.specs.declared.refusal.LineRefusal.TheVariants.{NoEnd, LineTooLong}
use Rattle.h41_commands.specs.Blocks.{block_values}
use Rattle.h41_commands.specs.Commands.{and_then, is_opening, kind_of, command_of}
use Rattle.h41_lines.specs.Words.{words_of}
use Rattle.h41_commands.specs.DeckLines.{is_end, is_long, is_skipped}

-- What lines specify: a command and the values of its block (none if it has no block), or why the
-- lines are refused.
abbrev pub Spelled : Type 0
Spelled = Result (Command × List ℕ) LineRefusal

-- A command with the values of its block, or the block's refusal.
abbrev pub with_values : Result (List ℕ) LineRefusal → Command → Spelled
with_values values command = and_then values (λ values. Ok (command, values))

-- What a first line and the lines of its block specify. An error of the first line is reported
-- before any other.
abbrev pub spelled_by : List ℕ → List (List ℕ) → Spelled
spelled_by first inside =
    and_then (command_of (words_of first))
    (λ command. with_values (block_values (kind_of command) inside) command)

-- A line that opens a block, with the lines after it. Without an end the block is refused as NoEnd
-- (52).
abbrev pub opened_block : List ℕ → List (List ℕ) → Spelled
opened_block first rest =
    if list_any is_end rest then spelled_by first (before_first is_end rest) else Err NoEnd

-- A line that opens no block.
abbrev pub line_spelled : List ℕ → Spelled
line_spelled line = if is_long line then Err LineTooLong else spelled_by line []

-- What lines specify, in at most so many steps.
abbrev pub spelled_within : ℕ → List (List ℕ) → List Spelled
spelled_within zero lines = []
spelled_within (suc most) [] = []
spelled_within (suc most) (line ∷ rest) =
    if is_long line then Err LineTooLong ∷ spelled_within most rest
    else (if is_skipped line then spelled_within most rest
    else (if is_opening (words_of line)
    then opened_block line rest ∷ spelled_within most (after_first is_end rest)
    else spelled_by line [] ∷ spelled_within most rest))

-- The commands that lines specify, each with the values of its block, or their refusals.
abbrev pub commands : List (List ℕ) → List Spelled
commands lines = spelled_within (length lines) lines

-- A block whose end was not read.
abbrev pub is_open : Spelled → Bool
is_open (Err NoEnd) = true
is_open (Err refusal) = false
is_open (Ok given) = false

-- The items without such a block.
abbrev pub without_open_block : List Spelled → List Spelled
without_open_block items = filter (λ item. not (is_open item)) items

-- Whether the first line that is not skipped opens a block.
abbrev pub opens_first : List (List ℕ) → Bool
opens_first [] = false
opens_first (line ∷ rest) =
    if is_long line then false
    else (if is_skipped line then opens_first rest else is_opening (words_of line))
