use Rattle.std.proofs.Common.{◌≡◌, ◌+◌, ◌-◌, arith, ◌∙◌}
use Rattle.h41_nut.proofs.Parts.{part-lt, exchanged_parts}
use Rattle.h41_nut.proofs.cpu.registers.rotated.Goals as goal

pub with_number-requires : goal.with_number-requires
with_number-requires c =
    let digits = c.args.digits in
    let count : 13 - digits + 1 - 0 ≡ 14 - digits = omega (arith, c.requires) in
    let fits = part-lt c.args.register digits (14 - digits) c.number-staying.ensures.register (omega (arith, c.requires)) in
    (omega arith, (omega arith, (omega arith, rw (count, c.number-staying.ensures.number) fits)))

pub with_number-requires-2 : goal.with_number-requires-2
with_number-requires-2 c =
    let digits = c.args.digits in
    let read : digits - 1 + 1 - 0 ≡ digits = omega (arith, c.if-digits-eq0.false) in
    let put : 14 - (14 - digits) ≡ digits = omega (arith, c.requires) in
    let fits = part-lt c.args.register 0 digits c.number-leaving.ensures.register (omega (arith, c.requires)) in
    (omega arith, (omega arith, (omega arith, rw (put, rw read at c.number-leaving.ensures.number) fits)))

pub returns : goal.returns
returns c =
    let digits = c.args.digits in
    let count : 13 - digits + 1 - 0 ≡ 14 - digits = omega (arith, c.requires) in
    let read : digits - 1 + 1 - 0 ≡ digits = omega (arith, c.if-digits-eq0.false) in
    let put : 14 - (14 - digits) ≡ digits = omega (arith, c.requires) in
    exchanged_parts c.args.register c.with_number.result c.with_number-2.result digits c.requires
    c.number-staying.ensures.register c.with_number.ensures.register c.with_number-2.ensures.register
    (rw count at c.with_number.ensures.number ∙ c.number-staying.ensures.number)
    (rw put at c.with_number-2.ensures.number ∙ rw read at c.number-leaving.ensures.number) c.with_number-2.ensures.below
