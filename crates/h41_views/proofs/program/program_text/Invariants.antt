use Rattle.std.proofs.Common.{length, ◌-◌}
use Rattle.h41_program.specs.ProgramBytes.{program_bytes}
use Rattle.h41_views.proofs.ProgramWalks.{Listed}
use Rattle.h41_views.proofs.program.program_text.Given as goal

-- The lines so far.
abbrev pub invariant-loop-found : goal.invariant-loop-found
invariant-loop-found g l = Listed l.ram.registers l.listing.items l.at

-- The bytes that remain.
abbrev pub decreases-loop-found : goal.decreases-loop-found
decreases-loop-found g l = length (program_bytes l.ram.registers) - l.at
