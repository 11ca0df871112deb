use Rattle.std.proofs.Common.{List, length, ◌-◌}
use Rattle.h41_program.specs.declared.listed_line.ListedLine.{ListedLine}
use Rattle.h41_program.proofs.Loads.{Loaded}
use Rattle.h41_program.proofs.loading.put_loaded.Given as goal

-- All lines so far except the last are packed.
abbrev pub invariant-loop-taken : goal.invariant-loop-taken
invariant-loop-taken l = (before : List ListedLine) × Loaded l.bytes l.initial.packer l.packer l.pending l.at before

-- The number of remaining bytes.
abbrev pub decreases-loop-taken : goal.decreases-loop-taken
decreases-loop-taken l = length l.bytes - l.at
