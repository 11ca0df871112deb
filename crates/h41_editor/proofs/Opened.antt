-- A state that is known under two names gives the same machine with memory.
use Rattle.std.proofs.Common.{◌≡◌}
use Rattle.h41_positions.specs.FocalState.{machine_with}
use Rattle.h41_positions.specs.LabelledMachine.{LabelledFocal}
use Rattle.h41_ram.specs.RegisterMap.{RegisterMap}

pub opened :
    (memory : RegisterMap) (inside focal : LabelledFocal)
    → inside ≡ focal
    → machine_with memory inside.state ≡ machine_with memory focal.state
opened memory inside focal is = λ i. machine_with memory (is i).state
