use Rattle.h41_decimal.proofs.Entries.{typed_determined}
use Rattle.h41_decimal.proofs.laws.typed_is_determined.Goals as goal

pub returns : goal.returns
returns c = typed_determined
