use Rattle.h41_editor.proofs.OneAnswer.{text_determined}
use Rattle.h41_editor.proofs.laws.text_is_determined.Goals as goal

pub returns : goal.returns
returns c = text_determined
    c.positions_are_read.ensures.read c.positions_are_read.ensures.number
