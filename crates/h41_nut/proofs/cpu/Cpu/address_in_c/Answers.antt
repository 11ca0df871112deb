use Rattle.std.proofs.Common.{arith}
use Rattle.h41_nut.proofs.Parts.{part-lt}
use Rattle.h41_nut.proofs.cpu.Cpu.address_in_c.Goals as goal

pub overflow_cast-result : goal.overflow_cast-result
overflow_cast-result c = omega (arith, c.number.ensures.number, part-lt c.self.inside.c 3 4 c.number.ensures.register (omega arith))
