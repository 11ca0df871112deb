use Rattle.std.proofs.Common.{arith}
use Rattle.h41_commands.proofs.commands.parse.page_number.Goals as goal

pub overflow_cast-result : goal.overflow_cast-result
overflow_cast-result c = omega (arith, c.in_ok-hexadecimal.ensures.small)
