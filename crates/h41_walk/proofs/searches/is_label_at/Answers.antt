use Rattle.std.proofs.Common.{◌≡◌, get_or, arith, sym, ◌∙◌, rules}
use Rattle.h41_codes.specs.ByteGrammar.{spelling}
use Rattle.h41_program.specs.declared.reading.Found.{Found}
use Rattle.h41_walk.proofs.LabelBytes.{byte_first, byte_inside, no_label}
use Rattle.h41_walk.proofs.searches.is_label_at.Goals as goal

pub byte_at-first-requires-clause-inside : goal.byte_at-first-requires-clause-inside
byte_at-first-requires-clause-inside g c = search (rules, byte_inside)

pub returns-then-first : goal.returns-then-first
returns-then-first g c line has =
    let place = c.args.place.now in
    let found : Found = record { listed = record { position = place.position; line = line }; behind = place.behind } in
    let byte : get_or (spelling line) 0 0 ≡ c.byte_at-first.result =
    byte_first (g.C.Code.source c.args.code.now) c.args.at found has ∙ sym c.byte_at-first.ensures in
    sym (no_label c.args.label line has.first.begins.spells.valid
    (omega (arith, byte, c.if-first-ge16.true)) (λ is. c.if-first.true (sym byte ∙ is)))

pub returns-in-None : goal.returns-in-None
returns-in-None g c line has =
    absurd (c.in-None.ensures.none (record { position = c.args.place.now.position; line = line }) has.first)
