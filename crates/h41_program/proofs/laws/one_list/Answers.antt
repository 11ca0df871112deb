use Rattle.h41_program.proofs.Exists
use Rattle.h41_program.proofs.laws.one_list.Goals as goal

pub returns : goal.returns
returns c = Exists.one_list c.byte_round_trip.ensures.one c.line_or_none.ensures
