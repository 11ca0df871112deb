use Rattle.std.proofs.Common.{rules}
use Rattle.h41_laws_decks.proofs.Reached.{bench_rests, one_of_keys, reply_whole}
use Rattle.h41_laws_decks.proofs.laws.replies_leave_whole.Goals as goal

pub returns-clause-leaves : goal.returns-clause-leaves
returns-clause-leaves c = search (rules, reply_whole)

pub returns-clause-rests : goal.returns-clause-rests
returns-clause-rests c = search (rules, bench_rests, one_of_keys)
