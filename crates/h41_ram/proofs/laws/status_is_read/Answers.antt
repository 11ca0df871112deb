use Rattle.h41_ram.proofs.Named.{status_read, others_stay}
use Rattle.h41_ram.proofs.laws.status_is_read.Goals as goal

pub returns-clause-read : goal.returns-clause-read
returns-clause-read c = status_read

pub returns-clause-others : goal.returns-clause-others
returns-clause-others c = others_stay
