use Rattle.h41_labels.proofs.Right.{right_depends}
use Rattle.h41_labels.proofs.laws.kept_answers_depend_on_the_program.Goals as goal

pub returns : goal.returns
returns c = right_depends c.programs_depend_on_their_registers.ensures.global c.programs_depend_on_their_registers.ensures.local
