use Rattle.h41_digits.proofs.Values.{same_register}
use Rattle.h41_digits.proofs.laws.value_is_injective.Goals as goal

pub returns : goal.returns
returns c = same_register
