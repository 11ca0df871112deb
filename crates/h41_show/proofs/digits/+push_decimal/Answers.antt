-- The digits before the last, and the last.
use Rattle.std.proofs.Common.{decimal, length-append, rules}
use Rattle.std.proofs.lemmas.Fmt.{decimal_digit, decimal_step}
use Rattle.std.proofs.lemmas.Grind.{common_steps}
use Rattle.h41_show.proofs.DecimalTexts.{length-decimal_step, length-decimal_digit}
use Rattle.h41_show.proofs.digits.+push_decimal.Goals as goal
use Rattle.h41_show.proofs.digits.+push_decimal.Goals.{then-number-ge10, else-number-ge10}

pub push_decimal-requires : goal.push_decimal-requires
push_decimal-requires t c = search (rules, length-decimal_step)

pub push_byte-requires-clause-room : goal.push_byte-requires-clause-room
push_byte-requires-clause-room t c =
    search (rules, then-number-ge10, length-decimal_step, length-append, decimal, else-number-ge10, length-decimal_digit)

pub returns : goal.returns
returns t c = search (rules, then-number-ge10, decimal_step, common_steps, else-number-ge10, decimal_digit)
