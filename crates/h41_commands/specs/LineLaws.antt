-- What holds of the commands of all lines, whatever the code does.
use Rattle.std.specs.Prelude.{◌≡◌, ℕ, List, map}
use Rattle.h41_ends.specs.InputLines.{told_part}
use Rattle.h41_commands.specs.Items.{commands}

-- The commands that lines specify depend only on the first 201 bytes of each line.
abbrev pub LongLinesAreAlike : Type 0
LongLinesAreAlike = (lines : List (List ℕ)) → commands (map told_part lines) ≡ commands lines
