use Rattle.h41_program.proofs.PositionsRead.{both_found}
use Rattle.h41_walk.proofs.lines.next.Goals as goal

pub returns-in-Some-first_from : goal.returns-in-Some-first_from
returns-in-Some-first_from g c =
    (both_found (g.C.Code.source c.args.code.now) c.args.at c.in-Some-first_from.found c.position_behind.result
    c.in-Some-first_from.ensures.first c.position_behind.ensures).1
