use Rattle.h41_numbers.proofs.TypedLaws.{numbers_determined}
use Rattle.h41_numbers.proofs.laws.numbers_are_determined.Goals as goal

pub returns : goal.returns
returns c = numbers_determined c.typed_is_determined.ensures
