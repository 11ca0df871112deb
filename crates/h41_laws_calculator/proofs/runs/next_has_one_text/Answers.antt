use Rattle.h41_laws_calculator.proofs.Told.{one_told}
use Rattle.h41_laws_calculator.proofs.runs.next_has_one_text.Goals as goal

pub returns : goal.returns
returns c = one_told c.positions_have_one_answer.ensures.line
