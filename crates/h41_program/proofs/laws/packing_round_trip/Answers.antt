use Rattle.h41_program.proofs.RoundTrips.{reads_packing}
use Rattle.h41_program.proofs.Written.{few_nulls, fills}
use Rattle.h41_program.proofs.laws.packing_round_trip.Goals as goal

pub returns-clause-read : goal.returns-clause-read
returns-clause-read c = reads_packing c.byte_round_trip.ensures.again

pub returns-clause-registers : goal.returns-clause-registers
returns-clause-registers c = fills

pub returns-clause-nulls : goal.returns-clause-nulls
returns-clause-nulls c = few_nulls
