use Rattle.std.proofs.Common.{None, Some, arith, inl, inr, refl, subst, false, ℕ, ◌≡◌, ◌+◌, ◌<◌}
use Rattle.h41_codes.specs.Heads.{BeginsKind, IsIn}
use Rattle.h41_codes.specs.declared.heads.Head.{Head}
use Rattle.h41_codes.specs.declared.heads.Head.TheVariants as heads
use Rattle.h41_program.specs.Lines.{is_end, is_final_end}
use Rattle.h41_program.specs.declared.reading.LinePlace.{LinePlace}
use Rattle.h41_program.proofs.Onward.{at_the_end}
use Rattle.h41_program.proofs.Places.{alone_there}
use Rattle.h41_program.proofs.PlacesBehind.{looked_before, looked_last, number_begins, position_of}
use Rattle.h41_program.proofs.PlacesFound.{some_place, none_place}
use Rattle.h41_program.proofs.reading.position_past_nulls.Goals as goal

pub returns-then-at-last : goal.returns-then-at-last
returns-then-at-last g c =
    at_the_end c.byte_round_trip.ensures.one c.line_or_none.ensures c.args.ram.now.registers c.args.at
    (omega (arith, c.if-at-last.true, c.final_position-last.ensures.value))

pub returns-then-position-last : goal.returns-then-position-last
returns-then-position-last g c =
    let memory = c.args.ram.now.registers in
    let last = c.final_position-last in
    let p = c.past_nulls-position in
    position_of memory c.args.at c.final_place.result
    (some_place c.byte_round_trip.ensures.one memory c.requires c.args.at last.result last.result (last.result + 3)
    (looked_last memory c.args.at p.result.0 last.result last.ensures.value last.ensures.count p.ensures.from p.ensures.to p.ensures.nulls
    c.if-position-last.true)
    (Some c.final_place.result) c.final_place.ensures)

pub returns-in-OneByte : goal.returns-in-OneByte
returns-in-OneByte g c =
    let memory = c.args.ram.now.registers in
    let last = c.final_position-last in
    let p = c.past_nulls-position in
    let inside : p.result.0 < last.result = omega (arith, c.if-position-last.false, p.ensures.to) in
    let looked =
    looked_before memory c.args.at p.result.0 last.result last.ensures.value last.ensures.count p.ensures.from p.ensures.to p.ensures.nulls
    inside p.ensures.stop in
    let is_kind : (head : Head) → c.head_of.result ≡ head → BeginsKind p.result.1 head =
    λ head is. subst (λ (kind : Head). BeginsKind p.result.1 kind) is c.head_of.ensures.kind in
    elim c.in-OneByte.is [
      | inl one ↦
          let place : LinePlace =
          record { position = p.result.0; behind = p.result.0 + 1; ends_program = false; ends_memory = false } in
          position_of memory c.args.at place
          (some_place c.byte_round_trip.ensures.one memory c.requires c.args.at p.result.0 last.result last.result looked (Some place)
          (alone_there memory p.result.0 last.result c.first_bytes.ensures.number inside p.result.1 p.ensures.byte
          (is_kind heads.OneByte one) (c.head_of.ensures.alone one)))
      | inr entry ↦
          let number =
          number_begins memory p.result.0 last.result inside
          (subst (λ (byte : ℕ). IsIn 0x10 0x1D byte) p.ensures.byte (is_kind heads.Number entry)) in
          let place : LinePlace = record {
            position = p.result.0;
            behind = p.result.0 + number.0;
            ends_program = is_end number.1.0;
            ends_memory = is_final_end number.1.0;
          } in
          position_of memory c.args.at place
          (some_place c.byte_round_trip.ensures.one memory c.requires c.args.at p.result.0 last.result last.result looked
          (Some place) (number.1.0, number.0, number.1.1, refl {a = place}))
    ]

pub returns-in-Some : goal.returns-in-Some
returns-in-Some g c =
    let memory = c.args.ram.now.registers in
    let last = c.final_position-last in
    let p = c.past_nulls-position in
    position_of memory c.args.at c.in-Some.first
    (some_place c.byte_round_trip.ensures.one memory c.requires c.args.at p.result.0 last.result last.result
    (looked_before memory c.args.at p.result.0 last.result last.ensures.value last.ensures.count p.ensures.from p.ensures.to p.ensures.nulls
    (omega (arith, c.if-position-last.false, p.ensures.to)) p.ensures.stop)
    (Some c.in-Some.first) c.in-Some.ensures.some)

pub returns-in-None : goal.returns-in-None
returns-in-None g c =
    let memory = c.args.ram.now.registers in
    let last = c.final_position-last in
    let p = c.past_nulls-position in
    inr (
      none_place c.byte_round_trip.ensures.one memory c.requires c.args.at p.result.0 last.result last.result
          (looked_before memory c.args.at p.result.0 last.result last.ensures.value last.ensures.count p.ensures.from p.ensures.to
          p.ensures.nulls (omega (arith, c.if-position-last.false, p.ensures.to)) p.ensures.stop)
          None c.in-None.ensures.none,
      refl,
    )
