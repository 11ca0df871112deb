use Rattle.h41_text.proofs.Canonical as lemma
use Rattle.h41_text.proofs.laws.same_text.Goals as goal

pub returns : goal.returns
returns c = lemma.same_text
