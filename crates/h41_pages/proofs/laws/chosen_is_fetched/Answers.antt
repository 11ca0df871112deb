use Rattle.h41_pages.proofs.PluggedWords.{word_chosen}
use Rattle.h41_pages.proofs.laws.chosen_is_fetched.Goals as goal

pub returns : goal.returns
returns c = word_chosen
