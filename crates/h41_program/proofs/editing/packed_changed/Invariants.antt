use Rattle.std.proofs.Common.{List, length, ◌-◌}
use Rattle.h41_program.specs.declared.listed_line.ListedLine.{ListedLine}
use Rattle.h41_program.specs.private.EditSteps.{lines_of_change}
use Rattle.h41_program.specs.ProgramBytes.{program_bytes, final_position}
use Rattle.h41_program.proofs.EditSteps.{Changed}
use Rattle.h41_program.proofs.editing.packed_changed.Given as goal

-- The lines so far, changed.
abbrev pub invariant-loop-found : goal.invariant-loop-found
invariant-loop-found g l =
    (before : List ListedLine)
    × Changed (program_bytes l.ram.registers) (final_position l.ram.registers) l.packer l.met (lines_of_change l.change l.place) l.place
    l.at before

-- The number of remaining bytes.
abbrev pub decreases-loop-found : goal.decreases-loop-found
decreases-loop-found g l = length (program_bytes l.ram.registers) - l.at
