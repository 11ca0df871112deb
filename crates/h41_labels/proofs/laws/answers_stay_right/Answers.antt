use Rattle.h41_labels.proofs.Right.{stays_right}
use Rattle.h41_labels.proofs.laws.answers_stay_right.Goals as goal

pub returns : goal.returns
returns c = stays_right
