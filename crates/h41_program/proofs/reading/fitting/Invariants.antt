use Rattle.std.proofs.Common.{ℕ, ◌<◌, ◌≤◌}
use Rattle.h41_program.specs.ProgramBytes.{program_byte}
use Rattle.h41_program.proofs.reading.fitting.Given as goal

-- The bytes so far are below 256.
abbrev pub invariant-loop-position : goal.invariant-loop-position
invariant-loop-position g l = (k : ℕ) → l.at ≤ k → k < l.position → program_byte l.ram.registers k < 256
