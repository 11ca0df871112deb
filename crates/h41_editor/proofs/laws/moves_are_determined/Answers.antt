use Rattle.h41_editor.proofs.OneAnswer.{before_determined, end_determined, next_determined}
use Rattle.h41_editor.proofs.laws.moves_are_determined.Goals as goal

pub returns-clause-next : goal.returns-clause-next
returns-clause-next c = next_determined
    c.positions_are_read.ensures.read c.positions_are_read.ensures.start

pub returns-clause-before : goal.returns-clause-before
returns-clause-before c =
    before_determined
    c.positions_are_read.ensures.read
    c.positions_are_read.ensures.start c.positions_are_read.ensures.end
    c.positions_are_read.ensures.before c.positions_are_read.ensures.number

pub returns-clause-end : goal.returns-clause-end
returns-clause-end c = end_determined c.lists_are_determined.ensures.lines c.searches_are_determined.ensures.start
