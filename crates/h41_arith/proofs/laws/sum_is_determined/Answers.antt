use Rattle.h41_arith.specs.DigitRule.{SumDigit}
use Rattle.h41_arith.proofs.Carries.{SumDigit-determines, result_determined}
use Rattle.h41_arith.proofs.laws.sum_is_determined.Goals as goal

pub returns : goal.returns
returns c base = result_determined (SumDigit base) (SumDigit-determines base)
