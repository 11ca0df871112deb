use Rattle.h41_laws_decks.proofs.Decked.{one_list, one_text}
use Rattle.h41_laws_decks.proofs.laws.deck_follows_its_replies.Goals as goal

pub returns-clause-answers : goal.returns-clause-answers
returns-clause-answers c = one_list c.reply_has_one_answer.ensures

pub returns-clause-text : goal.returns-clause-text
returns-clause-text c = one_text c.reply_has_one_answer.ensures
