-- The integer part after the radix mark is moved five places to the right.
use Rattle.std.proofs.Common.{rules}
use Rattle.h41_rows.proofs.Decimals.{shifted_ones, not_many}
use Rattle.h41_rows.proofs.counters.five_places_up.Goals as goal

pub returns-in-Some : goal.returns-in-Some
returns-in-Some c = shifted_ones c.args.x.mantissa.digits c.args.x.exponent.biased c.in-Some.ones c.in-Some.ensures.ones

pub returns-in-None : goal.returns-in-None
returns-in-None c = search (rules, not_many)
