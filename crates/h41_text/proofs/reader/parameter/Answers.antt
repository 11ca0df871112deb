use Rattle.std.proofs.Common.{sym, arith}
use Rattle.h41_text.proofs.Finding.{two_none}
use Rattle.h41_text.proofs.reader.parameter.Goals as goal

pub returns-in_err-two_digits-clause-none : goal.returns-in_err-two_digits-clause-none
returns-in_err-two_digits-clause-none c =
    rw c.from_residual.ensures (two_none c.args.text.now (omega arith) (sym c.in_err-two_digits.ensures.value))
