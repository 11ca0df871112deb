use Rattle.h41_xrom.proofs.StepLaws.{load_determined}
use Rattle.h41_xrom.proofs.laws.load_is_determined.Goals as goal

pub returns : goal.returns
returns c = load_determined c.edits_are_determined.ensures.load
