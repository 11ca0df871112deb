use Rattle.h41_laws_words.proofs.Answering.{has_one, integer_part, fraction}
use Rattle.h41_laws_words.proofs.numbers.number_has_parts.Goals as goal

pub returns-clause-integer : goal.returns-clause-integer
returns-clause-integer c number = has_one (integer_part number) (c.parts_are_determined.ensures.integer number)

pub returns-clause-fraction : goal.returns-clause-fraction
returns-clause-fraction c number = has_one (fraction number) (c.parts_are_determined.ensures.fraction number)
