use Rattle.h41_pages.proofs.PluggedWords.{word_plugged}
use Rattle.h41_pages.proofs.laws.plugged_is_fetched.Goals as goal

pub returns : goal.returns
returns c = word_plugged
