use Rattle.std.proofs.Common.{◌≡◌, ◌≤◌, suc, ◌+◌, ◌-◌, length, get_or, arith, rules, ap, sym, ◌∙◌}
use Rattle.std.proofs.lemmas.Bool.Decides.{nat_tests}
use Rattle.h41_codes.specs.ByteGrammar.{spelling}
use Rattle.h41_program.specs.ProgramBytes.{program_byte}
use Rattle.h41_program.proofs.Labels.{named_otherwise}
use Rattle.h41_program.proofs.PlacesFound.{place_byte, place_inside, place_some}
use Rattle.h41_program.proofs.searches.is_named_at.Goals as goal

pub byte_at-requires : goal.byte_at-requires
byte_at-requires g c =
    let memory = c.args.ram.now.registers in
    let place = c.args.place.now in
    let has = c.requires.place in
    let some = place_some memory c.requires.sound c.args.at place.position place.behind has.0 has.1 in
    let inside = place_inside memory c.requires.sound c.args.at place.position place.behind has.0 has.1 in
    (search rules, omega (arith, some, inside))

pub returns-then-byte_at-name : goal.returns-then-byte_at-name
returns-then-byte_at-name g c line has =
    let memory = c.args.ram.now.registers in
    let place = c.args.place.now in
    let k = length c.args.name.now - 1 in
    let some : 1 ≤ length c.args.name.now = grind (arith, nat_tests, c.is_empty.ensures, c.if-not-is_empty.true) in
    let there : place.position + suc (suc (suc (suc k))) ≡ place.behind - 1 = omega (arith, some) in
    let byte : get_or (spelling line) (suc (suc (suc (suc k)))) 0 ≡ c.byte_at.result =
    place_byte memory c.requires.sound c.args.at place.position place.behind line has (suc (suc (suc (suc k)))) (omega (arith, some))
    ∙ ap (program_byte memory) there ∙ sym c.byte_at.ensures in
    sym (named_otherwise c.args.name.now k line (λ same. c.if-byte_at-name.true (sym byte ∙ same)))

pub returns-in-None : goal.returns-in-None
returns-in-None g c line has =
    absurd (c.in-None.ensures.none (record { position = c.args.place.now.position; line = line }) has.first)
