use Rattle.h41_codes.proofs.Prefixes as lemma
use Rattle.h41_codes.proofs.laws.canonical_is_shortest.Goals as goal

pub returns-clause-line : goal.returns-clause-line
returns-clause-line c = lemma.canonical_is_line

pub returns-clause-shortest : goal.returns-clause-shortest
returns-clause-shortest c = lemma.canonical_is_shortest

pub returns-clause-once : goal.returns-clause-once
returns-clause-once c = lemma.canonical_once
