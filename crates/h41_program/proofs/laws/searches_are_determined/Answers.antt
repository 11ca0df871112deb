use Rattle.h41_program.proofs.FoundOnce
use Rattle.h41_program.proofs.laws.searches_are_determined.Goals as goal

pub returns-clause-line : goal.returns-clause-line
returns-clause-line c = FoundOnce.one_line c.byte_round_trip.ensures.one

pub returns-clause-next : goal.returns-clause-next
returns-clause-next c = FoundOnce.one_next c.byte_round_trip.ensures.one

pub returns-clause-start : goal.returns-clause-start
returns-clause-start c = FoundOnce.answers c.byte_round_trip.ensures.one

pub returns-clause-local : goal.returns-clause-local
returns-clause-local c = FoundOnce.local c.byte_round_trip.ensures.one

pub returns-clause-global : goal.returns-clause-global
returns-clause-global c = FoundOnce.answers c.byte_round_trip.ensures.one

pub returns-clause-last : goal.returns-clause-last
returns-clause-last c = FoundOnce.answers c.byte_round_trip.ensures.one

pub returns-clause-program : goal.returns-clause-program
returns-clause-program c = FoundOnce.program c.byte_round_trip.ensures.one
