use Rattle.h41_program.proofs.ShortReads.{short_found}
use Rattle.h41_walk.proofs.memory.RamCode.quick_next.Goals as goal

pub returns-in-Some : goal.returns-in-Some
returns-in-Some g c =
    (short_found c.args.self.now.registers c.args.at c.in-Some._line c.in-Some.next c.in-Some.ensures.some).1
