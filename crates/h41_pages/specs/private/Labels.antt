-- What the functions that find the names of keystroke code promise to each other.
use Rattle.std.specs.Prelude.{ℕ, List, Option, Some, None}
use Rattle.h41_codes.specs.declared.line.Line.{Line}
use Rattle.h41_codes.specs.declared.line.Line.TheVariants.{GlobalLabel}

-- The name of a line, if it is a label that has one.
abbrev pub name_of : Line → Option (List ℕ)
name_of (GlobalLabel link key name) = Some name
name_of line = None
