-- The sign, and what is shown of the size.
use Rattle.std.proofs.Common.{rules}
use Rattle.h41_show.proofs.Fixed.{size_positive}
use Rattle.h41_show.proofs.Scientific.{number_text-signed, number_text-zero}
use Rattle.h41_show.proofs.number.number_text.Goals as goal

pub returns-in-Zero : goal.returns-in-Zero
returns-in-Zero c = search (rules, number_text-zero)

pub returns-in-Nonzero : goal.returns-in-Nonzero
returns-in-Nonzero c = search (rules, size_positive, number_text-signed)
