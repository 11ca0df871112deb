use Rattle.std.proofs.Common.{arith, ◌+◌, ◌<◌, ◌∙◌}
use Rattle.h41_program.specs.ProgramBytes.{byte_count}
use Rattle.h41_program.proofs.ShortReads.{first_read, no_head, no_room, short_first}
use Rattle.h41_program.proofs.reading.short_line.Goals as goal

pub returns-in-Some-behind_short-clause-some : goal.returns-in-Some-behind_short-clause-some
returns-in-Some-behind_short-clause-some g c =
    let memory = c.args.ram.now.registers in
    let at = c.args.at in
    let last = c.final_position-last in
    let bytes = c.bytes_from-bytes in
    let inside : at + 2 < byte_count memory = omega (arith, c.if-at-last.false, last.ensures.count) in (
      at + c.in-Some.size,
      short_first c.byte_round_trip.ensures.one memory at last.result
          c.number_byte-first.result c.number_byte-second.result c.number_byte-third.result
          last.ensures.value last.ensures.count (omega (arith, c.if-at-last.false))
          (first_read memory at bytes.result c.number_byte-first.result (omega (arith, inside)) bytes.ensures c.number_byte-first.ensures)
          (c.number_byte-second.ensures ∙ bytes.ensures 1 (omega arith) (omega (arith, inside)))
          (c.number_byte-third.ensures ∙ bytes.ensures 2 (omega arith) inside)
          c.first_bytes.ensures.number c.first_bytes.ensures.null c.requires c.short_line.result c.in-Some.size
          (c.short_line.ensures c.in-Some.size c.in-Some.ensures.some) c.in-Some-behind_short.ensures.some.0,
      c.in-Some-behind_short.ensures.some.1,
    )

pub returns-in-None-behind_short-clause-none : goal.returns-in-None-behind_short-clause-none
returns-in-None-behind_short-clause-none g c =
    let last = c.final_position-last in
    let inside : c.args.at < byte_count c.args.ram.now.registers = omega (arith, c.if-at-last.false, last.ensures.count) in
    no_room c.args.ram.now.registers c.args.at last.result c.number_byte-first.result
    last.ensures.value last.ensures.count (omega (arith, c.if-at-last.false))
    (first_read c.args.ram.now.registers c.args.at c.bytes_from-bytes.result c.number_byte-first.result inside
    c.bytes_from-bytes.ensures c.number_byte-first.ensures)
    c.in-Some.size c.in-Some.ensures.size c.in-None-behind_short.ensures.none

pub returns-in-None-clause-none : goal.returns-in-None-clause-none
returns-in-None-clause-none g c =
    let last = c.final_position-last in
    let inside : c.args.at < byte_count c.args.ram.now.registers = omega (arith, c.if-at-last.false, last.ensures.count) in
    no_head c.args.ram.now.registers c.args.at last.result c.number_byte-first.result
    last.ensures.value last.ensures.count (omega (arith, c.if-at-last.false))
    (first_read c.args.ram.now.registers c.args.at c.bytes_from-bytes.result c.number_byte-first.result inside
    c.bytes_from-bytes.ensures c.number_byte-first.ensures)
    c.in-None.ensures.none
