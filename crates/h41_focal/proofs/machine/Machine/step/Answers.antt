use Rattle.std.proofs.Common.{Ok}
use Rattle.h41_codes.specs.ShortLines.{line_of}
use Rattle.h41_focal.proofs.machine.Machine.step.Goals as goal

pub returns-in-Some-clause-line : goal.returns-in-Some-clause-line
returns-in-Some-clause-line g c =
    (Ok (line_of c.in-Some.line, c.in-Some.next), c.in-Some.ensures.some, c.carry_short.ensures.taken)

pub returns-in-Some-clause-right : goal.returns-in-Some-clause-right
returns-in-Some-clause-right g c =
    c.kept_answers_stay_right.ensures.searching c.args.self.now c.carry_short.new.machine _ (c.requires c.in-Some.ensures.clear)
    c.carry_short.ensures.kept.asks c.carry_short.ensures.kept.mark

pub returns-in-Some-clause-kept : goal.returns-in-Some-clause-kept
returns-in-Some-clause-kept g c =
    (Ok (line_of c.in-Some.line, c.in-Some.next), c.in-Some.ensures.some, rw c.in-Some.ensures.clear c.carry_short.ensures.kept.asks)
