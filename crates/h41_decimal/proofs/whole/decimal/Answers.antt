-- The number is filled with zeros to ten digits.
use Rattle.std.proofs.Common.{◌-◌, ap, arith}
use Rattle.h41_decimal.specs.Signs.{with_sign}
use Rattle.h41_decimal.proofs.Wholes.{few_digits, ten_of_fewer, filled_worth}
use Rattle.h41_decimal.proofs.whole.decimal.Goals as goal

pub overflow_sub-missing : goal.overflow_sub-missing
overflow_sub-missing c = few_digits c.digit_count-missing.result c.args.number c.digit_count-missing.ensures.least (omega arith)

pub invariant_of-mantissa : goal.invariant_of-mantissa
invariant_of-mantissa c =
    let count = c.digit_count-missing.result in
    let few = few_digits count c.args.number c.digit_count-missing.ensures.least (omega arith) in
    let h =
    ten_of_fewer c.args.number count (10 - count) c.power_of_ten.result
    c.power_of_ten.ensures (omega arith) (omega arith) (omega arith) in
    record { at_least = h.0; below = h.1 }

pub returns : goal.returns
returns c =
    let count = c.digit_count-missing.result in
    let few = few_digits count c.args.number c.digit_count-missing.ensures.least (omega arith) in
    ap (with_sign c.args.sign)
    (filled_worth c.args.number (10 - count) c.args.steps c.power_of_ten.result c.power_of_ten.ensures (omega arith))
