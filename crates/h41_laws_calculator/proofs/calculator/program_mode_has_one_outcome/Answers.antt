use Rattle.std.proofs.Common.{rules}
use Rattle.h41_editor.specs.Moves.{GoesToEnd}
use Rattle.h41_laws_calculator.proofs.Inserted.{inserts, one_change, replaces}
use Rattle.h41_laws_calculator.proofs.Moved.{deletes, goes_to_end, one_move, shows_before, shows_next}
use Rattle.h41_laws_calculator.proofs.calculator.program_mode_has_one_outcome.Goals as goal

pub returns-clause-next : goal.returns-clause-next
returns-clause-next c pages = search (rules, one_move, shows_next, c.moves_are_determined.ensures.next pages)

pub returns-clause-before : goal.returns-clause-before
returns-clause-before c pages = search (rules, one_move, shows_before, c.moves_are_determined.ensures.before pages)

pub returns-clause-end : goal.returns-clause-end
returns-clause-end c = one_move GoesToEnd c.moves_are_determined.ensures.end (goes_to_end c.one_list.ensures)

pub returns-clause-deletion : goal.returns-clause-deletion
returns-clause-deletion c pages = search (rules, one_move, deletes, c.changes_are_determined.ensures.deletion pages)

pub returns-clause-insertion : goal.returns-clause-insertion
returns-clause-insertion c pages = search (rules, one_change, inserts, c.changes_are_determined.ensures.insertion pages)

pub returns-clause-replacement : goal.returns-clause-replacement
returns-clause-replacement c = search (rules, one_change, replaces)
