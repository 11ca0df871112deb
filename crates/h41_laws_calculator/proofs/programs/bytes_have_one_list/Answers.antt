use Rattle.h41_laws_calculator.proofs.Listed.{one_listed}
use Rattle.h41_laws_calculator.proofs.programs.bytes_have_one_list.Goals as goal

pub returns : goal.returns
returns c = one_listed c.each_is_listed.ensures.lines c.lists_are_determined.ensures.read
