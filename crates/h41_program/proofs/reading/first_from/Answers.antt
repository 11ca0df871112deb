use Rattle.h41_program.proofs.ByteLines.{one_byte_first, two_bytes_first}
use Rattle.h41_program.proofs.reading.first_from.Goals as goal

pub returns-in-Some-clause-first : goal.returns-in-Some-clause-first
returns-in-Some-clause-first g c =
    let last = c.final_position-last in
    let found = c.in-Some.ensures.some in
    one_byte_first c.byte_round_trip.ensures.one c.first_bytes.ensures.number
    c.args.ram.now.registers c.requires c.args.at last.result c.byte_at-byte.result
    last.ensures.value last.ensures.count c.if-at-last.true c.byte_at-byte.ensures c.if-byte-ne0.true found.0 c.in-Some.line found.1

pub returns-in-Some-two_byte_line-clause-first : goal.returns-in-Some-two_byte_line-clause-first
returns-in-Some-two_byte_line-clause-first g c =
    let last = c.final_position-last in
    let found = c.in-Some-two_byte_line.ensures.some in
    two_bytes_first c.byte_round_trip.ensures.one c.first_bytes.ensures.number
    c.args.ram.now.registers c.requires c.args.at last.result c.byte_at-byte.result c.byte_at.result
    last.ensures.value last.ensures.count c.if-at-last-2.true c.byte_at-byte.ensures c.byte_at.ensures
    found.0 c.in-Some-two_byte_line.line found.1
