use Rattle.h41_xrom.proofs.DisplayLaws.{display_determined}
use Rattle.h41_xrom.proofs.laws.display_is_determined.Goals as goal

pub returns : goal.returns
returns c = display_determined c.text_is_determined.ensures
