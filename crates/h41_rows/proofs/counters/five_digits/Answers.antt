use Rattle.std.proofs.Common.{rules}
use Rattle.h41_rows.proofs.Counts.{rest_size}
use Rattle.h41_rows.proofs.Decimals.{low_exponent}
use Rattle.h41_rows.proofs.counters.five_digits.Goals as goal

-- A fraction is below 1.
pub five_places_up-requires-in-Nonzero : goal.five_places_up-requires-in-Nonzero
five_places_up-requires-in-Nonzero c = search (rules, rest_size, low_exponent)
