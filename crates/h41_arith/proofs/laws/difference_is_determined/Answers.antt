use Rattle.h41_arith.specs.DigitRule.{DifferenceDigit}
use Rattle.h41_arith.proofs.Carries.{DifferenceDigit-determines, result_determined}
use Rattle.h41_arith.proofs.laws.difference_is_determined.Goals as goal

pub returns : goal.returns
returns c base = result_determined (DifferenceDigit base) (DifferenceDigit-determines base)
