use Rattle.h41_laws_calculator.proofs.Listed.{by_list, by_program}
use Rattle.h41_laws_calculator.proofs.programs.searches_have_one_answer.Goals as goal

pub returns-clause-start : goal.returns-clause-start
returns-clause-start c = by_list c.one_list.ensures c.searches_are_determined.ensures.start

pub returns-clause-global : goal.returns-clause-global
returns-clause-global c = by_list c.one_list.ensures c.searches_are_determined.ensures.global

pub returns-clause-last : goal.returns-clause-last
returns-clause-last c = by_list c.one_list.ensures c.searches_are_determined.ensures.last

pub returns-clause-program : goal.returns-clause-program
returns-clause-program c = by_program c.one_list.ensures c.searches_are_determined.ensures.program
