use Rattle.h41_decimal.proofs.Answered.{steps_determined}
use Rattle.h41_decimal.proofs.laws.steps_are_determined.Goals as goal

pub returns : goal.returns
returns c = steps_determined
