use Rattle.h41_codes.proofs.Deciding
use Rattle.h41_codes.proofs.laws.line_or_none.Goals as goal

pub returns : goal.returns
returns c = Deciding.line_or_none
