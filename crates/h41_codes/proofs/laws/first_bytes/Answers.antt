use Rattle.h41_codes.proofs.FirstBytes.{number_begins, null_begins}
use Rattle.h41_codes.proofs.laws.first_bytes.Goals as goal

pub returns-clause-number : goal.returns-clause-number
returns-clause-number c = number_begins

pub returns-clause-null : goal.returns-clause-null
returns-clause-null c = null_begins
