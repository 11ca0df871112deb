use Rattle.std.proofs.Common.{ℕ, ◌<◌, ◌≤◌}
use Rattle.h41_codes.specs.Heads.{IsIn}
use Rattle.h41_program.specs.ProgramBytes.{program_byte}
use Rattle.h41_program.proofs.reading.number_size.Given as goal

-- The bytes so far belong to the number.
abbrev pub invariant-loop-position : goal.invariant-loop-position
invariant-loop-position g l = (k : ℕ) → l.at ≤ k → k < l.position → IsIn 0x10 0x1D (program_byte l.ram.registers k)
