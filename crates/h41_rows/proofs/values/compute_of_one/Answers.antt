use Rattle.std.proofs.Common.{rules}
use Rattle.h41_rows.proofs.Working.{one_at}
use Rattle.h41_rows.proofs.values.compute_of_one.Goals as goal

pub returns : goal.returns
returns g c = search (rules, one_at)
