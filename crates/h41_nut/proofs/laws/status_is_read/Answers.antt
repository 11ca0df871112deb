use Rattle.h41_nut.proofs.StatusBits.{status_read, others_stay}
use Rattle.h41_nut.proofs.laws.status_is_read.Goals as goal

pub returns-clause-read : goal.returns-clause-read
returns-clause-read c = status_read

pub returns-clause-others : goal.returns-clause-others
returns-clause-others c = others_stay
