use Rattle.std.proofs.Common.{◌≡◌, ◌≤◌, ◌*◌, ◌/◌, ◌%◌, get_or, length, set, sym, ap, subst, ◌∙◌, arith}
use Rattle.std.proofs.lemmas.List.{get_or_read, set_past}
use Rattle.h41_breakpoints.specs.private.Tables.{IsWithBit, bits_of}
use Rattle.h41_breakpoints.proofs.Bits.{bits_of-set, length-bits_of}
use Rattle.h41_breakpoints.proofs.bit_table.BitTable.set.Goals as goal

pub returns-then-place : goal.returns-then-place
returns-then-place g c =
    let numbers = c.self.inside.numbers.items in
    let place = c.args.place in
    let room : g.row.COUNT ≤ 64 * length numbers = omega (arith, c.self.invariant, c.self.inside.numbers.ok.0) in
    let read : c.index.result.now ≡ get_or numbers (place / 64) 0 =
    get_or_read numbers (place / 64) _ (omega (arith, room, c.if-place.true)) c.index.ensures 0 in
    bits_of-set g.row.COUNT numbers place c.with_bit.result c.args.bit c.if-place.true room
    (subst (λ number. IsWithBit number (place % 64) c.args.bit c.with_bit.result) read c.with_bit.ensures)
    ∙ ap (λ bits. set bits place c.args.bit) c.self.view_is

pub returns-else-place : goal.returns-else-place
returns-else-place g c =
    let bits = bits_of g.row.COUNT c.self.inside.numbers.items in
    let past : length bits ≤ c.args.place =
    omega (arith, length-bits_of g.row.COUNT c.self.inside.numbers.items, c.if-place.false) in
    sym c.self.view_is ∙ sym (set_past bits c.args.place c.args.bit past)
    ∙ ap (λ bits. set bits c.args.place c.args.bit) c.self.view_is
