use Rattle.h41_digits.proofs.Values.{byte_at-set_byte}
use Rattle.h41_digits.proofs.laws.set_byte_is_read.Goals as goal

pub returns : goal.returns
returns c = byte_at-set_byte
