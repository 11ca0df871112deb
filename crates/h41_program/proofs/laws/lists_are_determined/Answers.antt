use Rattle.h41_program.proofs.Determined.{first_determined, lists_determined, read_determined}
use Rattle.h41_program.proofs.laws.lists_are_determined.Goals as goal

pub returns-clause-lines : goal.returns-clause-lines
returns-clause-lines c = lists_determined c.byte_round_trip.ensures.one

pub returns-clause-read : goal.returns-clause-read
returns-clause-read c = read_determined c.byte_round_trip.ensures.one

pub returns-clause-first : goal.returns-clause-first
returns-clause-first c = first_determined c.byte_round_trip.ensures.one
