use Rattle.h41_codes.proofs.Beginnings.{begins_spelled, one_line}
use Rattle.h41_codes.proofs.laws.byte_round_trip.Goals as goal

pub returns-clause-again : goal.returns-clause-again
returns-clause-again c = begins_spelled

pub returns-clause-one : goal.returns-clause-one
returns-clause-one c = one_line
