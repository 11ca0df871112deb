-- How many bytes there are at most.
use Rattle.std.proofs.Common.{◌/◌, decimal, arith, length-append, rules}
use Rattle.h41_show.proofs.DecimalTexts.{length-decimal_most}
use Rattle.h41_show.proofs.Powers.{power_pos}
use Rattle.h41_show.proofs.number.push_mantissa.Goals as goal

pub nonzero_div-count : goal.nonzero_div-count
nonzero_div-count c = let some = power_pos c.args.decimals in omega arith

pub push_decimal-requires : goal.push_decimal-requires
push_decimal-requires c = let size = length-decimal_most (c.args.count / c.power_of_ten.result) (omega arith) in omega arith

pub push_byte-requires-clause-room : goal.push_byte-requires-clause-room
push_byte-requires-clause-room c = search (rules, length-decimal_most, length-append, decimal)

pub push_digits-requires : goal.push_digits-requires
push_digits-requires c = search (rules, length-decimal_most, length-append, decimal)

pub returns-clause-most : goal.returns-clause-most
returns-clause-most c = search (rules, length-decimal_most, length-append, decimal)
