use Rattle.std.proofs.Common.{rules}
use Rattle.h41_decimal.proofs.Signed.{signed-add}
use Rattle.h41_rows.proofs.counters.joined.Goals as goal

pub returns : goal.returns
returns c = search (rules, signed-add)
