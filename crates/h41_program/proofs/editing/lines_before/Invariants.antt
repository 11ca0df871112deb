use Rattle.std.proofs.Common.{◌≡◌, ◌≤◌, List, length, ◌-◌}
use Rattle.h41_program.specs.declared.listed_line.ListedLine.{ListedLine}
use Rattle.h41_program.specs.Edits.{count_before}
use Rattle.h41_program.specs.ProgramBytes.{program_bytes, final_position}
use Rattle.h41_program.proofs.Walks.{UpTo}
use Rattle.h41_program.proofs.editing.lines_before.Given as goal

-- The lines so far precede the place.
abbrev pub invariant-loop-found : goal.invariant-loop-found
invariant-loop-found g l =
    (before : List ListedLine)
    × UpTo (program_bytes l.ram.registers) (final_position l.ram.registers) 0 before l.at
    × (l.count ≡ count_before l.place before)
    × (l.count ≤ l.at)

-- The number of remaining bytes.
abbrev pub decreases-loop-found : goal.decreases-loop-found
decreases-loop-found g l = length (program_bytes l.ram.registers) - l.at
