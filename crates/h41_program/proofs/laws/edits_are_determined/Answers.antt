use Rattle.h41_program.proofs.Determined.{answers_determined, edits_determined, loads_determined}
use Rattle.h41_program.proofs.laws.edits_are_determined.Goals as goal

pub returns-clause-load : goal.returns-clause-load
returns-clause-load c = loads_determined c.byte_round_trip.ensures.one

pub returns-clause-outcome : goal.returns-clause-outcome
returns-clause-outcome c = edits_determined c.byte_round_trip.ensures.one

pub returns-clause-answer : goal.returns-clause-answer
returns-clause-answer c = answers_determined c.byte_round_trip.ensures.one

pub returns-clause-front : goal.returns-clause-front
returns-clause-front c = answers_determined c.byte_round_trip.ensures.one
