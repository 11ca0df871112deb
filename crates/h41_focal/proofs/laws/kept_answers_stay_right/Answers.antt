use Rattle.h41_focal.proofs.LabelsRight.{keeping_stays, searching_stays}
use Rattle.h41_focal.proofs.laws.kept_answers_stay_right.Goals as goal

pub returns-clause-keeping : goal.returns-clause-keeping
returns-clause-keeping c = keeping_stays c.kept_answers_depend_on_the_program.ensures

pub returns-clause-searching : goal.returns-clause-searching
returns-clause-searching c =
    searching_stays c.kept_answers_depend_on_the_program.ensures c.answers_stay_right.ensures
