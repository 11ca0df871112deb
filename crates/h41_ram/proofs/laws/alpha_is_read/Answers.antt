use Rattle.h41_ram.proofs.AlphaTexts.{alpha_of-with_alpha}
use Rattle.h41_ram.proofs.laws.alpha_is_read.Goals as goal

pub returns : goal.returns
returns c = alpha_of-with_alpha
