use Rattle.std.proofs.Common.{arith}
use Rattle.h41_program.proofs.NullBytes.{nulls_stop, nulls_zero}
use Rattle.h41_program.proofs.reading.leading_nulls.Goals as goal

pub returns-clause-nulls : goal.returns-clause-nulls
returns-clause-nulls c = nulls_zero c.args.bytes c.requires (omega arith)

pub returns-clause-stop : goal.returns-clause-stop
returns-clause-stop c = nulls_stop c.args.bytes c.requires (omega arith)
