use Rattle.h41_laws_calculator.proofs.NumberTexts.{one_number}
use Rattle.h41_laws_calculator.proofs.values.number_line_has_one_number.Goals as goal

pub returns : goal.returns
returns c = one_number c.typed_has_one_number.ensures c.numbers_are_determined.ensures
