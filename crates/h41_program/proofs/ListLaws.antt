-- Lists of lines from the positions of their own lines on.
use Rattle.std.proofs.Common.{ℕ, List, ◌∷◌, rules}
use Rattle.h41_program.specs.declared.listed_line.ListedLine.{ListedLine}
use Rattle.h41_program.specs.ProgramLaws.{GoesOnFromNext}
use Rattle.h41_program.specs.FirstLines.{FirstFrom, behind}
use Rattle.h41_program.specs.ProgramLines.{Reads}

-- A first line is the first from its own position on.
own_first : (bytes : List ℕ) (final at : ℕ) (first : ListedLine) → FirstFrom bytes final at first
    → FirstFrom bytes final first.position first
own_first bytes final at first is = search rules

pub own_reads : (bytes : List ℕ) (final at : ℕ) (first : ListedLine) (rest : List ListedLine) → Reads bytes final at (first ∷ rest)
    → Reads bytes final first.position (first ∷ rest)
own_reads bytes final at first rest reads = (own_first bytes final at first reads.0, reads.1)

rest_reads : (bytes : List ℕ) (final at : ℕ) (first second : ListedLine) (rest : List ListedLine)
    → Reads bytes final at (first ∷ second ∷ rest) → Reads bytes final (behind first) (second ∷ rest)
rest_reads bytes final at first second rest reads = search rules

pub from_next : GoesOnFromNext
from_next memory at first second rest from = search (rules, own_reads, rest_reads)
