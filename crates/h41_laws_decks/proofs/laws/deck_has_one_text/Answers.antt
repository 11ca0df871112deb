use Rattle.std.proofs.Common.{rules}
use Rattle.h41_laws_decks.proofs.Reached.{each_deck, each_front, first_rest}
use Rattle.h41_laws_decks.proofs.laws.deck_has_one_text.Goals as goal

pub returns-clause-text : goal.returns-clause-text
returns-clause-text c = search (rules, each_deck)

pub returns-clause-front : goal.returns-clause-front
returns-clause-front c = search (rules, each_front)

pub returns-clause-rest : goal.returns-clause-rest
returns-clause-rest c = search (rules, first_rest, each_deck)
