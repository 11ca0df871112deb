use Rattle.h41_arith.specs.DigitRule.{SumDigit, base_of}
use Rattle.h41_laws_words.proofs.Carrying.{one_result, sum_gives}
use Rattle.h41_laws_words.proofs.numbers.sum_has_one_result.Goals as goal

pub returns : goal.returns
returns c decimal = one_result (SumDigit (base_of decimal)) (sum_gives decimal) (c.sum_is_determined.ensures (base_of decimal))
