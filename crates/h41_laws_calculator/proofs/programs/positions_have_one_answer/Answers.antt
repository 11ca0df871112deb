use Rattle.std.proofs.Common.{rules}
use Rattle.h41_positions.specs.Positions.{LineAt, NextAt}
use Rattle.h41_laws_calculator.proofs.Placed.{before_at, end_at, line_at, local_at, next_at, number_at, one_of, start_at}
use Rattle.h41_laws_calculator.proofs.programs.positions_have_one_answer.Goals as goal

pub returns-clause-line : goal.returns-clause-line
returns-clause-line c = one_of LineAt c.positions_are_read.ensures.read.line (line_at c.each_is_listed.ensures.first)

pub returns-clause-next : goal.returns-clause-next
returns-clause-next c = one_of NextAt c.positions_are_read.ensures.read.next (next_at c.each_is_listed.ensures.first)

pub returns-clause-start : goal.returns-clause-start
returns-clause-start c = search (rules, one_of, start_at)

pub returns-clause-local : goal.returns-clause-local
returns-clause-local c n = search (rules, one_of, local_at, c.positions_are_read.ensures.local n)

pub returns-clause-end : goal.returns-clause-end
returns-clause-end c = search (rules, one_of, end_at)

pub returns-clause-before : goal.returns-clause-before
returns-clause-before c = search (rules, one_of, before_at)

pub returns-clause-number : goal.returns-clause-number
returns-clause-number c = search (rules, one_of, number_at)
