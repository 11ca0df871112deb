use Rattle.h41_editor.proofs.OneAnswer.{numbered_determined}
use Rattle.h41_editor.proofs.laws.numbered_is_determined.Goals as goal

pub returns : goal.returns
returns c = numbered_determined
    c.positions_are_read.ensures.read c.positions_are_read.ensures.number
