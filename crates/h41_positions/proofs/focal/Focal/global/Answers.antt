use Rattle.h41_positions.proofs.focal.Focal.global.Goals as goal

pub returns-clause-found : goal.returns-clause-found
returns-clause-found g c = c.global.ensures.found (rw (← c.self.view_is) at c.requires.right)
