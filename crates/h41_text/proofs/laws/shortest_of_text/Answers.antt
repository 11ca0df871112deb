use Rattle.h41_text.proofs.OneText as lemma
use Rattle.h41_text.proofs.laws.shortest_of_text.Goals as goal

pub returns : goal.returns
returns c = lemma.shortest_of_text c.canonical_is_shortest.ensures.shortest
