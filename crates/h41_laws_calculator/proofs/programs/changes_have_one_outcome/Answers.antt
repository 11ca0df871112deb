use Rattle.h41_laws_calculator.proofs.ProgramsChanged.{one_change, one_edit, one_load}
use Rattle.h41_laws_calculator.proofs.programs.changes_have_one_outcome.Goals as goal

pub returns-clause-edit : goal.returns-clause-edit
returns-clause-edit c =
    one_edit c.each_is_listed.ensures.first c.each_is_listed.ensures.lines c.one_list.ensures c.edits_are_determined.ensures.outcome

pub returns-clause-load : goal.returns-clause-load
returns-clause-load c =
    one_load c.each_is_listed.ensures.first c.each_is_listed.ensures.lines c.one_list.ensures c.edits_are_determined.ensures.load

pub returns-clause-answer : goal.returns-clause-answer
returns-clause-answer c = one_change c.one_list.ensures c.edits_are_determined.ensures.answer

pub returns-clause-front : goal.returns-clause-front
returns-clause-front c = one_change c.one_list.ensures c.edits_are_determined.ensures.front
