use Rattle.h41_text.proofs.OneText as lemma
use Rattle.h41_text.proofs.laws.line_text_round_trip.Goals as goal

pub returns-clause-again : goal.returns-clause-again
returns-clause-again c = lemma.round_trip

pub returns-clause-one : goal.returns-clause-one
returns-clause-one c = lemma.one_line
