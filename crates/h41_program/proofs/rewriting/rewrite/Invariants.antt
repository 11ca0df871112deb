use Rattle.std.proofs.Common.{◌≡◌, ℕ, ◌+◌, ◌<◌, get_or}
use Rattle.h41_ram.specs.RegisterMap.{main_start, zeros}
use Rattle.h41_program.specs.Rewriting.{rewritten_register}
use Rattle.h41_program.proofs.rewriting.rewrite.Given as goal

-- The registers so far.
abbrev pub invariant-loop-index : goal.invariant-loop-index
invariant-loop-index g l = (k : ℕ) → k < l.index → get_or l.register-items k zeros
    ≡ rewritten_register l.ram.registers l.bytes (main_start + k)
