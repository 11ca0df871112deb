use Rattle.h41_commands.proofs.BlocksDetermined.{same_filling, same_meaning}
use Rattle.h41_commands.proofs.laws.blocks_are_determined.Goals as goal

pub returns-clause-filling : goal.returns-clause-filling
returns-clause-filling c =
    same_filling c.words_or_fault.ensures.never_both c.words_are_determined.ensures c.line_text_round_trip.ensures.one

pub returns-clause-meaning : goal.returns-clause-meaning
returns-clause-meaning c =
    same_meaning c.words_or_fault.ensures.never_both c.words_are_determined.ensures c.line_text_round_trip.ensures.one
