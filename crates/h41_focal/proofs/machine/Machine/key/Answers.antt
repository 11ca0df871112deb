use Rattle.h41_focal.proofs.machine.Machine.key.Goals as goal

pub returns-clause-right : goal.returns-clause-right
returns-clause-right g c =
    c.kept_answers_stay_right.ensures.searching c.begin.new.self c.carry_out.new.machine _ c.begin.ensures.right
    c.carry_out.ensures.kept.asks c.carry_out.ensures.kept.mark
