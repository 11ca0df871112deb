-- How many bytes there are at most.
use Rattle.std.proofs.Common.{decimal, arith, length-append, rules}
use Rattle.h41_show.proofs.DecimalTexts.{length-decimal_most}
use Rattle.h41_show.proofs.number.push_integer.Goals as goal

pub push_grouped-requires-clause-room : goal.push_grouped-requires-clause-room
push_grouped-requires-clause-room c = let size = length-decimal_most c.args.whole (omega arith) in omega arith

pub push_decimal-requires : goal.push_decimal-requires
push_decimal-requires c = let size = length-decimal_most c.args.whole (omega arith) in omega arith

pub returns-then-format-clause-most : goal.returns-then-format-clause-most
returns-then-format-clause-most c = let size = length-decimal_most c.args.whole (omega arith) in omega arith

pub returns-else-format-clause-most : goal.returns-else-format-clause-most
returns-else-format-clause-most c = search (rules, length-decimal_most, length-append, decimal)
