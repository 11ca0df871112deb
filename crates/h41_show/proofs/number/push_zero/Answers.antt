-- Zero in each notation.
use Rattle.std.proofs.Common.{append_assoc, rules}
use Rattle.h41_show.proofs.Scientific.{zero_fixed, zero_in_powers}
use Rattle.h41_show.proofs.number.push_zero.Goals as goal

pub returns-in-Fixed : goal.returns-in-Fixed
returns-in-Fixed c = search (rules, zero_fixed)

pub returns-in-Scientific : goal.returns-in-Scientific
returns-in-Scientific c = search (rules, append_assoc, zero_in_powers)
