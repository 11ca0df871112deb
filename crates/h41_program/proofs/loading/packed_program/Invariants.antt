use Rattle.std.proofs.Common.{List, length, ◌-◌}
use Rattle.h41_program.specs.declared.listed_line.ListedLine.{ListedLine}
use Rattle.h41_program.specs.Edits.{lines_of}
use Rattle.h41_program.specs.private.Packers.{Packs}
use Rattle.h41_program.specs.ProgramBytes.{program_bytes, final_position}
use Rattle.h41_program.proofs.Walks.{UpTo}
use Rattle.h41_program.proofs.loading.packed_program.Given as goal

-- The lines so far are packed.
abbrev pub invariant-loop-found : goal.invariant-loop-found
invariant-loop-found g l =
    (before : List ListedLine) × UpTo (program_bytes l.ram.registers) (final_position l.ram.registers) 0 before l.at
    × Packs l.packer (lines_of before)

-- The number of remaining bytes.
abbrev pub decreases-loop-found : goal.decreases-loop-found
decreases-loop-found g l = length (program_bytes l.ram.registers) - l.at
