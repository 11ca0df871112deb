use Rattle.h41_digits.proofs.Windows.{number_byte_read}
use Rattle.h41_digits.proofs.number_byte.Goals as goal

pub returns : goal.returns
returns c = number_byte_read c.args.number c.args.k
