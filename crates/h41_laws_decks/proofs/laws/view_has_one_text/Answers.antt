use Rattle.h41_laws_decks.proofs.Said.{one_view}
use Rattle.h41_laws_decks.proofs.laws.view_has_one_text.Goals as goal

pub returns : goal.returns
returns c = one_view c.one_list.ensures c.lists_are_determined.ensures.lines c.display_has_one_text.ensures
