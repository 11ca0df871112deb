use Rattle.h41_walk.proofs.MemoryPrograms.{local_here}
use Rattle.h41_labels.proofs.cache.found.Goals as goal

pub returns-in-Local : goal.returns-in-Local
returns-in-Local g c =
    let memory = c.args.ram.now.registers in
    rw c.in-Local.is
    (local_here memory c.requires c.one_list.ensures c.lists_are_determined.ensures.read c.in-Local.at c.in-Local.label
    c.local.result c.local.ensures)
