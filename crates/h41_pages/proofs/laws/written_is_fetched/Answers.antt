use Rattle.h41_pages.proofs.WrittenWords.{word_fetched, others_stay}
use Rattle.h41_pages.proofs.laws.written_is_fetched.Goals as goal

pub returns-clause-written : goal.returns-clause-written
returns-clause-written c = word_fetched

pub returns-clause-others : goal.returns-clause-others
returns-clause-others c = others_stay
