use Rattle.h41_program.proofs.FoundOnce
use Rattle.h41_program.proofs.ListLaws.{from_next}
use Rattle.h41_program.proofs.laws.lines_are_of_lists.Goals as goal

pub returns-clause-line : goal.returns-clause-line
returns-clause-line c = FoundOnce.line c.byte_round_trip.ensures.one

pub returns-clause-next : goal.returns-clause-next
returns-clause-next c = FoundOnce.next c.byte_round_trip.ensures.one

pub returns-clause-rest : goal.returns-clause-rest
returns-clause-rest c = from_next
