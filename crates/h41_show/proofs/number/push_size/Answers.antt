-- What FIX shows.
use Rattle.std.proofs.Common.{rules}
use Rattle.h41_show.proofs.Scientific.{notation_text-fixed}
use Rattle.h41_show.proofs.number.push_size.Goals as goal

pub returns-in-Some : goal.returns-in-Some
returns-in-Some c = search (rules, notation_text-fixed)
