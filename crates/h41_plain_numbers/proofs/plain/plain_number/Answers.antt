use Rattle.h41_plain_numbers.proofs.PlainLines.{none_found, plain_found}
use Rattle.h41_plain_numbers.proofs.plain.plain_number.Goals as goal

pub returns-in-Some-clause-some : goal.returns-in-Some-clause-some
returns-in-Some-clause-some g c =
    let last = c.final_position-last.ensures in
    plain_found c.byte_round_trip.ensures.one c.first_bytes.ensures.number c.plain_texts_are_typed.ensures
    c.args.ram.now.registers c.args.at c.final_position-last.result
    c.in-Some.behind c.in-Some.byte c.in-Some.digits c.requires last.value last.count c.in-Some.ensures.some
    c.position_by.result c.ten-number.result c.position_by.ensures c.ten-number.ensures

pub returns-in-None-clause-none : goal.returns-in-None-clause-none
returns-in-None-clause-none g c =
    let last = c.final_position-last.ensures in
    none_found c.args.ram.now.registers c.args.at c.final_position-last.result last.value last.count c.in-None.ensures.none
