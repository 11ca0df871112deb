use Rattle.h41_editor.proofs.OneAnswer.{deletion_determined, insertion_determined, replacement_determined}
use Rattle.h41_editor.proofs.laws.changes_are_determined.Goals as goal

pub returns-clause-insertion : goal.returns-clause-insertion
returns-clause-insertion c =
    insertion_determined c.edits_are_determined.ensures.outcome c.edits_are_determined.ensures.answer
    c.positions_are_read.ensures.read
    c.positions_are_read.ensures.start
    c.positions_are_read.ensures.number

pub returns-clause-replacement : goal.returns-clause-replacement
returns-clause-replacement c = replacement_determined c.edits_are_determined.ensures.outcome c.edits_are_determined.ensures.answer

pub returns-clause-deletion : goal.returns-clause-deletion
returns-clause-deletion c =
    deletion_determined c.edits_are_determined.ensures.outcome c.edits_are_determined.ensures.front
    c.positions_are_read.ensures.read
