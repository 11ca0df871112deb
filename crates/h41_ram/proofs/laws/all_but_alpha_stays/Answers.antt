use Rattle.h41_ram.proofs.AlphaTexts.{alpha_keeps_others, alpha_keeps_left_of_p}
use Rattle.h41_ram.proofs.laws.all_but_alpha_stays.Goals as goal

pub returns-clause-others : goal.returns-clause-others
returns-clause-others c = alpha_keeps_others

pub returns-clause-left : goal.returns-clause-left
returns-clause-left c = alpha_keeps_left_of_p
