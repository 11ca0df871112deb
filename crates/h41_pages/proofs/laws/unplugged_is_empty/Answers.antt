use Rattle.h41_pages.proofs.PluggedWords.{page_emptied}
use Rattle.h41_pages.proofs.laws.unplugged_is_empty.Goals as goal

pub returns : goal.returns
returns c = page_emptied
