use Rattle.h41_ram.proofs.Marks.{in_turn, stays}
use Rattle.h41_ram.proofs.laws.mark_is_kept.Goals as goal

pub returns-clause-stays : goal.returns-clause-stays
returns-clause-stays c = stays

pub returns-clause-turn : goal.returns-clause-turn
returns-clause-turn c = in_turn
