use Rattle.h41_arith.specs.DigitRule.{DifferenceDigit, base_of}
use Rattle.h41_laws_words.proofs.Carrying.{one_result, difference_gives}
use Rattle.h41_laws_words.proofs.numbers.difference_has_one_result.Goals as goal

pub returns : goal.returns
returns c decimal =
    one_result (DifferenceDigit (base_of decimal)) (difference_gives decimal) (c.difference_is_determined.ensures (base_of decimal))
