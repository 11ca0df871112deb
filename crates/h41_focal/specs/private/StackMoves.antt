-- Definitions for the private functions that change the stack.
use Rattle.std.specs.Prelude.{◌≡◌, ℕ, Bool, List, Ok}
use Rattle.h41_focal.specs.LineStep.{Works}
use Rattle.h41_rows.specs.RowEffects.{memory_after}
use Rattle.h41_focal.specs.private.Works.{move_row}
use Rattle.h41_focal.specs.declared.works.Movement.{Movement}
use Rattle.h41_ram.specs.RegisterMap.{RegisterMap}

-- Memory after the row of a change of the stack, given the register that the row computes.
abbrev pub Moves : Movement → (old new : RegisterMap) → Bool → Type 0
Moves movement old new lift =
    (named : ℕ)
    → (register : List ℕ)
    × Works old named (move_row movement) (Ok register)
    × (new ≡ memory_after (move_row movement) named register lift old)
