use Rattle.std.proofs.Common.{arith}
use Rattle.h41_digits.proofs.Windows.{number_bytes, number_fits}
use Rattle.h41_digits.proofs.eight_bytes.Goals as goal

pub overflow_add-result-2 : goal.overflow_add-result-2
overflow_add-result-2 c =
    omega (arith, number_fits c.here.inside.word c.below.inside.word c.args.skipped c.requires c.below.invariant.1)

pub returns : goal.returns
returns c k inside =
    number_bytes c.here.inside.word c.below.inside.word c.args.skipped c.requires c.below.invariant.1
    c.args.here c.args.below c.here.view_is c.below.view_is k inside
