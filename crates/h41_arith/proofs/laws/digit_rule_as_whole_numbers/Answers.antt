use Rattle.h41_arith.proofs.WholeNumbers.{difference_of_numbers, sum_of_numbers}
use Rattle.h41_arith.proofs.laws.digit_rule_as_whole_numbers.Goals as goal

pub returns-clause-sum : goal.returns-clause-sum
returns-clause-sum c = sum_of_numbers

pub returns-clause-difference : goal.returns-clause-difference
returns-clause-difference c = difference_of_numbers
