use Rattle.std.proofs.Common.{Ok, rules}
use Rattle.h41_rows.proofs.values.number_register.Goals as goal

pub returns : goal.returns
returns c = λ text is memory named. record { answer = Ok c.args.number; nearest = is; kept = search rules }
