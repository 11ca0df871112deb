use Rattle.std.proofs.Common.{rules}
use Rattle.h41_ram.proofs.Marks.{main_keeps}
use Rattle.h41_ram.proofs.ram.Ram.set_main_memory.Goals as goal

pub returns-clause-mark : goal.returns-clause-mark
returns-clause-mark g c =
    let keeps = main_keeps c.args.self.now c.args.main (search rules) in
    search rules
