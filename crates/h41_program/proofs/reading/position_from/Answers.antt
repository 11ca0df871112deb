use Rattle.h41_program.proofs.Onward.{at_the_end}
use Rattle.std.proofs.Common.{arith}
use Rattle.h41_program.proofs.reading.position_from.Goals as goal

pub returns-then-at-final_position : goal.returns-then-at-final_position
returns-then-at-final_position g c =
    let last = c.final_position.ensures in
    at_the_end c.byte_round_trip.ensures.one c.line_or_none.ensures c.args.ram.now.registers c.args.at
    (omega (arith, c.if-at-final_position.true, last.value))
