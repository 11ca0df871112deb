use Rattle.std.proofs.Common.{rules}
use Rattle.h41_laws_decks.proofs.Replied.{one_reply}
use Rattle.h41_laws_decks.proofs.laws.reply_has_one_answer.Goals as goal

pub returns : goal.returns
returns c = search (rules, one_reply)
