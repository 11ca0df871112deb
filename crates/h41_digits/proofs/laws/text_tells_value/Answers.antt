use Rattle.h41_digits.proofs.Values.{text-register}
use Rattle.h41_digits.proofs.laws.text_tells_value.Goals as goal

pub returns : goal.returns
returns c = text-register
