use Rattle.h41_deck.proofs.MemoryNeeded.{memory_needed}
use Rattle.h41_deck.proofs.laws.memory_is_needed.Goals as goal

pub returns : goal.returns
returns c = memory_needed
