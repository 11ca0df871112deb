use Rattle.h41_program.proofs.ClosedRead.{close_read, closed_shut}
use Rattle.h41_program.proofs.Outcomes.{load_read}
use Rattle.h41_program.proofs.Resized.{size_lines}
use Rattle.h41_program.proofs.Written.{written_read}
use Rattle.h41_program.proofs.laws.changes_are_read.Goals as goal

pub returns-clause-written : goal.returns-clause-written
returns-clause-written c = written_read c.byte_round_trip.ensures.again

pub returns-clause-loaded : goal.returns-clause-loaded
returns-clause-loaded c = load_read c.byte_round_trip.ensures.again

pub returns-clause-closed : goal.returns-clause-closed
returns-clause-closed c = close_read c.byte_round_trip.ensures.again

pub returns-clause-shut : goal.returns-clause-shut
returns-clause-shut c = closed_shut

pub returns-clause-sized : goal.returns-clause-sized
returns-clause-sized c = size_lines
