use Rattle.h41_numbers.proofs.PlainTexts.{plain_typed}
use Rattle.h41_numbers.proofs.laws.plain_texts_are_typed.Goals as goal

pub returns : goal.returns
returns c = plain_typed
