use Rattle.h41_decimal.proofs.Tens.{own_nearest}
use Rattle.h41_decimal.proofs.laws.decimal_is_its_nearest.Goals as goal

pub returns : goal.returns
returns c = own_nearest
