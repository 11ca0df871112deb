use Rattle.h41_laws_decks.proofs.Said.{one_block}
use Rattle.h41_laws_decks.proofs.laws.page_block_says_one.Goals as goal

pub returns : goal.returns
returns c = one_block c.words_or_fault.ensures.one_holds c.words_or_fault.ensures.never_both c.words_are_determined.ensures
