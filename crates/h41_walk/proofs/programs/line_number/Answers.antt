use Rattle.std.proofs.Common.{rules}
use Rattle.h41_walk.proofs.Answering.{of_program}
use Rattle.h41_walk.proofs.programs.line_number.Goals as goal

pub returns : goal.returns
returns g c = search (rules, of_program)
