-- The groups before the last, and the last.
use Rattle.std.proofs.Common.{decimal, length-append, append_assoc, rules}
use Rattle.std.proofs.lemmas.Fmt.{decimal_nonempty, length-decimal-le}
use Rattle.h41_show.proofs.DecimalTexts.{decimal_group, length-decimal_group, grouped_short, grouped-group}
use Rattle.h41_show.proofs.digits.+push_grouped.Goals as goal

pub push_grouped-requires : goal.push_grouped-requires
push_grouped-requires t c = search (rules, length-decimal_group)

pub push_byte-requires-clause-room : goal.push_byte-requires-clause-room
push_byte-requires-clause-room t c = search (rules, length-decimal_group)

pub push_digits-requires : goal.push_digits-requires
push_digits-requires t c = search (rules, length-decimal_group, length-append)

pub returns-then-number-ge1000-clause-bytes : goal.returns-then-number-ge1000-clause-bytes
returns-then-number-ge1000-clause-bytes t c = search (rules, decimal, decimal_nonempty, decimal_group, grouped-group, append_assoc)

pub returns-then-number-ge1000-clause-most : goal.returns-then-number-ge1000-clause-most
returns-then-number-ge1000-clause-most t c = search (rules, length-decimal_group, length-append)

pub returns-else-number-ge1000-clause-bytes : goal.returns-else-number-ge1000-clause-bytes
returns-else-number-ge1000-clause-bytes t c = search (rules, length-decimal-le, grouped_short, decimal)
