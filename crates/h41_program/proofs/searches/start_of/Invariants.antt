use Rattle.std.proofs.Common.{◌≡◌, List, length, ◌-◌}
use Rattle.h41_program.specs.declared.listed_line.ListedLine.{ListedLine}
use Rattle.h41_program.specs.ProgramBytes.{program_bytes, final_position}
use Rattle.h41_program.specs.Searches.{start_in}
use Rattle.h41_program.proofs.Walks.{UpTo}
use Rattle.h41_program.proofs.searches.start_of.Given as goal

-- The answer for the lines so far.
abbrev pub invariant-loop-place : goal.invariant-loop-place
invariant-loop-place g l =
    (before : List ListedLine) × UpTo (program_bytes l.ram.registers) (final_position l.ram.registers) 0 before l.position
    × (l.start ≡ start_in l.at before)

-- The number of remaining bytes.
abbrev pub decreases-loop-place : goal.decreases-loop-place
decreases-loop-place g l = length (program_bytes l.ram.registers) - l.position
