use Rattle.std.proofs.Common.{refl}
use Rattle.h41_rows.proofs.answers.answer_of_two.Goals as goal

pub returns-in-Remainder : goal.returns-in-Remainder
returns-in-Remainder c = rw c.in-Remainder.is (c.args.first, c.args.second, refl, refl, c.modulo.ensures)
