use Rattle.std.proofs.Common.{◌≡◌, ℕ, ◌-◌, ◌<◌, ◌≤◌}
use Rattle.h41_program.specs.ProgramBytes.{program_byte}
use Rattle.h41_program.proofs.reading.past_nulls.Given as goal

-- The bytes so far are nulls.
abbrev pub invariant-loop-nulls : goal.invariant-loop-nulls
invariant-loop-nulls g l = record {
  from : l.at ≤ l.position;
  to : l.position ≤ l.last;
  nulls : (k : ℕ) → l.at ≤ k → k < l.position → program_byte l.ram.registers k ≡ 0;
}

abbrev pub decreases-loop-nulls : goal.decreases-loop-nulls
decreases-loop-nulls g l = l.last - l.position
