use Rattle.std.proofs.Common.{◌+◌, arith}
use Rattle.h41_program.proofs.Exists.{first_or_none, reads_some}
use Rattle.h41_program.proofs.laws.each_is_listed.Goals as goal

pub returns-clause-first : goal.returns-clause-first
returns-clause-first c bytes final at =
    first_or_none c.byte_round_trip.ensures.one c.line_or_none.ensures bytes final (final + 1) at (omega arith)

pub returns-clause-lines : goal.returns-clause-lines
returns-clause-lines c ends bytes final at =
    reads_some c.byte_round_trip.ensures.one c.line_or_none.ensures bytes final ends (final + 1) at (omega arith)
