use Rattle.std.proofs.Common.{rules}
use Rattle.h41_rows.proofs.Counts.{filled, log_few, whole_worth}
use Rattle.h41_rows.proofs.counters.whole_number.Goals as goal

pub overflow_sub-log : goal.overflow_sub-log
overflow_sub-log c = log_few c.ilog10-log.result c.args.ones c.ilog10-log.ensures.power_le c.requires

pub invariant_of-mantissa : goal.invariant_of-mantissa
invariant_of-mantissa c =
    let log = c.ilog10-log.result in
    let fits = log_few log c.args.ones c.ilog10-log.ensures.power_le c.requires in
    let h = filled log c.args.ones c.pow.result c.pow.ensures fits c.ilog10-log.ensures.power_le c.ilog10-log.ensures.next_power_gt in
    record { at_least = h.0; below = h.1 }

pub returns : goal.returns
returns c = search (rules, log_few, whole_worth)
