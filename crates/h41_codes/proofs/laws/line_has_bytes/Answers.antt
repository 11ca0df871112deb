use Rattle.h41_codes.proofs.LineLengths.{spelling_least, spelling_most}
use Rattle.h41_codes.proofs.laws.line_has_bytes.Goals as goal

pub returns : goal.returns
returns c line valid = (spelling_least line valid, spelling_most line valid)
