-- The numbers of a program's lines. The first line has number 1.
use Rattle.std.specs.Prelude.{ℕ, suc, ◌-◌, List, [], ◌∷◌, ◌==◌, if◌then◌else◌, Option, Some, None}
use Rattle.std.specs.Option.{option_map}
use Rattle.h41_program.specs.declared.listed_line.ListedLine.{ListedLine}

-- The number of the line at a position, or none if none of these lines is there.
abbrev pub number_in : ℕ → List ListedLine → Option ℕ
number_in position [] = None
number_in position (first ∷ rest) =
    if first.position == position then Some 1 else option_map suc (number_in position rest)

-- The position of the line with this number. There is none for number 0 and for numbers above the
-- number of lines.
abbrev pub numbered_in : ℕ → List ListedLine → Option ℕ
numbered_in number [] = None
numbered_in number (first ∷ rest) =
    if number == 1 then Some first.position else numbered_in (number - 1) rest

-- The position of the line whose number is one less than the given one. Line 1 has none before it.
abbrev pub before_number : List ListedLine → Option ℕ → Option ℕ
before_number lines None = None
before_number lines (Some number) = numbered_in (number - 1) lines

-- The position of the line before the line at a position.
abbrev pub before_in : ℕ → List ListedLine → Option ℕ
before_in position lines = before_number lines (number_in position lines)
