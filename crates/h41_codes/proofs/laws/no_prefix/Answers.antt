use Rattle.h41_codes.proofs.Prefixes as lemma
use Rattle.h41_codes.proofs.laws.no_prefix.Goals as goal

pub returns : goal.returns
returns c = lemma.no_prefix
