use Rattle.h41_program.proofs.Depends
use Rattle.h41_program.proofs.laws.programs_depend_on_their_registers.Goals as goal

pub returns-clause-lists : goal.returns-clause-lists
returns-clause-lists c = Depends.lists

pub returns-clause-first : goal.returns-clause-first
returns-clause-first c = Depends.firsts

pub returns-clause-none : goal.returns-clause-none
returns-clause-none c = Depends.nones

pub returns-clause-line : goal.returns-clause-line
returns-clause-line c = Depends.line

pub returns-clause-next : goal.returns-clause-next
returns-clause-next c = Depends.next

pub returns-clause-start : goal.returns-clause-start
returns-clause-start c = Depends.answers

pub returns-clause-local : goal.returns-clause-local
returns-clause-local c = Depends.local

pub returns-clause-global : goal.returns-clause-global
returns-clause-global c = Depends.answers

pub returns-clause-last : goal.returns-clause-last
returns-clause-last c = Depends.answers

pub returns-clause-program : goal.returns-clause-program
returns-clause-program c = Depends.program
