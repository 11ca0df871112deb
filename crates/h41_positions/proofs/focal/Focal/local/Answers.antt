use Rattle.h41_positions.proofs.focal.Focal.local.Goals as goal

pub returns-in-Memory-clause-found : goal.returns-in-Memory-clause-found
returns-in-Memory-clause-found g c =
    rw c.in-Memory.is (c.local.result, c.local.ensures.found (rw (← c.self.view_is) at c.requires.right), c.byte_found.ensures)
