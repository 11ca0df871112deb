use Rattle.std.proofs.Common.{◌≡◌, ℕ, ◌+◌, ◌-◌, ◌<◌, get_or}
use Rattle.h41_ram.specs.RegisterMap.{main_start, top_of, zeros}
use Rattle.h41_program.specs.Size.{resized_register}
use Rattle.h41_program.proofs.size.resize.Given as goal

-- The registers so far.
abbrev pub invariant-loop-index : goal.invariant-loop-index
invariant-loop-index g l =
    (k : ℕ) → k < l.index → get_or l.register-items k zeros
    ≡ resized_register l.ram.registers (top_of l.ram.registers - l.curtain) (main_start + k)
