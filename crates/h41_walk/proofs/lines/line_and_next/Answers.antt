use Rattle.h41_program.proofs.PositionsRead.{both_found}
use Rattle.h41_walk.proofs.lines.line_and_next.Goals as goal

pub returns-in-Some : goal.returns-in-Some
returns-in-Some g c =
    both_found (g.C.Code.source c.args.code.now) c.args.at c.in-Some.found c.position_behind-next.result c.in-Some.ensures.first
    c.position_behind-next.ensures
