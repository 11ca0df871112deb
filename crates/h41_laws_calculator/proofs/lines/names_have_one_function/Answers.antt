use Rattle.h41_laws_calculator.proofs.Named.{one_function}
use Rattle.h41_laws_calculator.proofs.lines.names_have_one_function.Goals as goal

pub returns : goal.returns
returns c = one_function c.line_is_determined.ensures.name
