use Rattle.std.proofs.Common.{Some, arith, ◌+◌}
use Rattle.h41_program.proofs.FirstLines.{first_inside}
use Rattle.h41_program.proofs.PlacesBehind.{looked_before, looked_last}
use Rattle.h41_program.proofs.PlacesFound.{some_place, none_place, some_behind}
use Rattle.h41_program.proofs.reading.place_from.Goals as goal

pub returns-then-at-last-clause-none : goal.returns-then-at-last-clause-none
returns-then-at-last-clause-none g c first is =
    let inside = first_inside _ _ _ first is in
    let from = is.from in
    omega (arith, inside, from, c.if-at-last.true, c.final_position-last.ensures.value)

pub returns-then-position-last-clause-place : goal.returns-then-position-last-clause-place
returns-then-position-last-clause-place g c =
    let memory = c.args.ram.now.registers in
    let last = c.final_position-last in
    let p = c.past_nulls-position in
    some_place c.byte_round_trip.ensures.one memory c.requires c.args.at last.result last.result (last.result + 3)
    (looked_last memory c.args.at p.result.0 last.result last.ensures.value last.ensures.count p.ensures.from p.ensures.to p.ensures.nulls
    c.if-position-last.true)
    (Some c.final_place.result) c.final_place.ensures

pub returns-clause-place : goal.returns-clause-place
returns-clause-place g c =
    let memory = c.args.ram.now.registers in
    let last = c.final_position-last in
    let p = c.past_nulls-position in
    some_place c.byte_round_trip.ensures.one memory c.requires c.args.at p.result.0 last.result last.result
    (looked_before memory c.args.at p.result.0 last.result last.ensures.value last.ensures.count p.ensures.from p.ensures.to p.ensures.nulls
    (omega (arith, c.if-position-last.false, p.ensures.to)) p.ensures.stop)
    c.place_at.result c.place_at.ensures.some

pub returns-clause-none : goal.returns-clause-none
returns-clause-none g c =
    let memory = c.args.ram.now.registers in
    let last = c.final_position-last in
    let p = c.past_nulls-position in
    none_place c.byte_round_trip.ensures.one memory c.requires c.args.at p.result.0 last.result last.result
    (looked_before memory c.args.at p.result.0 last.result last.ensures.value last.ensures.count p.ensures.from p.ensures.to p.ensures.nulls
    (omega (arith, c.if-position-last.false, p.ensures.to)) p.ensures.stop)
    c.place_at.result c.place_at.ensures.none

pub returns-clause-behind : goal.returns-clause-behind
returns-clause-behind g c =
    let bound = c.final_position-last.ensures.bound in
    some_behind c.args.ram.now.registers c.past_nulls-position.result.0 c.final_position-last.result 2240 (omega (arith, bound))
    c.past_nulls-position.ensures.to c.place_at.result c.place_at.ensures.some
