-- The digits as they are rounded, one more at the exponent, or cut.
use Rattle.std.proofs.Common.{◌+◌, ◌-◌, arith, rules}
use Rattle.h41_show.proofs.Powers.{power_pos, pow-lt-pow}
use Rattle.h41_show.proofs.Roundings.{near_low, cut_low, cut_high, rounded_within, rounded_up, rounded_down}
use Rattle.h41_show.proofs.rounding.round.Goals as goal

pub returns-then-near-power_of_ten-clause-value : goal.returns-then-near-power_of_ten-clause-value
returns-then-near-power_of_ten-clause-value c = search (rules, rounded_within)

pub returns-then-near-power_of_ten-clause-least : goal.returns-then-near-power_of_ten-clause-least
returns-then-near-power_of_ten-clause-least c = search (rules, near_low)

pub returns-then-above_least-lt-GREATEST_EXPONENT-clause-value : goal.returns-then-above_least-lt-GREATEST_EXPONENT-clause-value
returns-then-above_least-lt-GREATEST_EXPONENT-clause-value c = search (rules, rounded_up)

pub returns-then-above_least-lt-GREATEST_EXPONENT-clause-most : goal.returns-then-above_least-lt-GREATEST_EXPONENT-clause-most
returns-then-above_least-lt-GREATEST_EXPONENT-clause-most c =
    rw c.power_of_ten-then-above_least-lt-GREATEST_EXPONENT.ensures (pow-lt-pow c.args.decimals (c.args.decimals + 1) (omega arith))

pub nonzero_div-result : goal.nonzero_div-result
nonzero_div-result c = let some = power_pos (9 - c.args.decimals) in omega arith

pub returns-else-above_least-lt-GREATEST_EXPONENT-clause-value : goal.returns-else-above_least-lt-GREATEST_EXPONENT-clause-value
returns-else-above_least-lt-GREATEST_EXPONENT-clause-value c = search (rules, rounded_down)

pub returns-else-above_least-lt-GREATEST_EXPONENT-clause-least : goal.returns-else-above_least-lt-GREATEST_EXPONENT-clause-least
returns-else-above_least-lt-GREATEST_EXPONENT-clause-least c = search (rules, cut_low)

pub returns-else-above_least-lt-GREATEST_EXPONENT-clause-most : goal.returns-else-above_least-lt-GREATEST_EXPONENT-clause-most
returns-else-above_least-lt-GREATEST_EXPONENT-clause-most c = search (rules, cut_high)
