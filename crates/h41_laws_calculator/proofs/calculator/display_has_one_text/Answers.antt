use Rattle.std.proofs.Common.{rules}
use Rattle.h41_laws_calculator.proofs.Loading.{one_text}
use Rattle.h41_laws_calculator.proofs.Moved.{shows_program}
use Rattle.h41_laws_calculator.proofs.calculator.display_has_one_text.Goals as goal

pub returns : goal.returns
returns c = search (rules, one_text, shows_program)
