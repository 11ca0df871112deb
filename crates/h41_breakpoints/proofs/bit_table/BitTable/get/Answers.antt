use Rattle.std.proofs.Common.{◌≡◌, ◌/◌, ◌%◌, Some, false, get_or, eqb, sym, ap, ◌∙◌, arith}
use Rattle.std.specs.Prelude.{slice_get}
use Rattle.std.specs.Int.{bit_at}
use Rattle.std.proofs.lemmas.List.{get_or_read}
use Rattle.std.proofs.lemmas.Nat.Bits.{shr_and_one}
use Rattle.std.proofs.lemmas.Option.{slice_get-get_or, slice_get_past}
use Rattle.h41_breakpoints.specs.private.Tables.{bits_of}
use Rattle.h41_breakpoints.proofs.Bits.{get_or-bits_of, length-bits_of}
use Rattle.h41_breakpoints.proofs.bit_table.BitTable.get.Goals as goal

pub returns-then-place : goal.returns-then-place
returns-then-place g c =
    let numbers = c.self.inside.numbers.items in
    let place = c.args.place in
    let read : c.index.result.now ≡ get_or numbers (place / 64) 0 =
    get_or_read numbers (place / 64) _ (omega (arith, c.self.invariant, c.if-place.true, c.self.inside.numbers.ok.0)) c.index.ensures 0 in
    ap Some
    (ap (λ x. eqb x 1) (shr_and_one c.index.result.now (place % 64)) ∙ ap (λ x. eqb (bit_at x (place % 64)) 1) read
    ∙ sym (get_or-bits_of g.row.COUNT numbers place c.if-place.true))
    ∙ sym (slice_get-get_or (bits_of g.row.COUNT numbers) place false (omega (arith, length-bits_of g.row.COUNT numbers, c.if-place.true)))
    ∙ ap (λ bits. slice_get bits place) c.self.view_is

pub returns-else-place : goal.returns-else-place
returns-else-place g c =
    let numbers = c.self.inside.numbers.items in
    sym (slice_get_past (bits_of g.row.COUNT numbers) c.args.place (omega (arith, length-bits_of g.row.COUNT numbers, c.if-place.false)))
    ∙ ap (λ bits. slice_get bits c.args.place) c.self.view_is
