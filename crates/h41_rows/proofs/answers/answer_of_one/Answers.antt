use Rattle.std.proofs.Common.{refl}
use Rattle.h41_rows.proofs.answers.answer_of_one.Goals as goal

pub returns-in-Displayed : goal.returns-in-Displayed
returns-in-Displayed c = rw c.in-Displayed.is (c.args.number, refl, c.round_to.ensures)
