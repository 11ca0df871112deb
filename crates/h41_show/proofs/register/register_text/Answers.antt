use Rattle.std.proofs.Common.{rules}
use Rattle.h41_show.proofs.Held.{register_text-number, register_text-bytes, register_text-digits}
use Rattle.h41_show.proofs.register.register_text.Goals as goal

pub returns-in-Some : goal.returns-in-Some
returns-in-Some c = search (rules, register_text-number)

pub returns-then-get-eq-ALPHA_DATA : goal.returns-then-get-eq-ALPHA_DATA
returns-then-get-eq-ALPHA_DATA c = search (rules, register_text-bytes)

pub returns-else-get-eq-ALPHA_DATA : goal.returns-else-get-eq-ALPHA_DATA
returns-else-get-eq-ALPHA_DATA c = search (rules, register_text-digits)
