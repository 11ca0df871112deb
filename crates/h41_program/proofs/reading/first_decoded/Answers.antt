use Rattle.std.proofs.Common.{ℕ, ◌-◌, List, arith, rules, sym, subst, ◌∙◌}
use Rattle.h41_codes.specs.ByteGrammar.{AnswersLine}
use Rattle.h41_codes.specs.declared.line.Line.{Line}
use Rattle.h41_program.specs.ProgramLines.{HasFirst}
use Rattle.h41_program.proofs.Memory.{no_error}
use Rattle.h41_program.proofs.PlacesFound.{place_begins, place_inside, place_from_to, same_answer}
use Rattle.h41_program.proofs.reading.first_decoded.Goals as goal

pub window-requires : goal.window-requires
window-requires g c =
    let memory = c.args.ram.now.registers in
    let place = c.in-Some.place in
    let has = c.in-Some.ensures.place in
    let behind = c.in-Some.ensures.behind in (
      search rules,
      (
        place_from_to memory c.requires c.args.at place.position place.behind has.0 has.1,
        (place_inside memory c.requires c.args.at place.position place.behind has.0 has.1, (omega (arith, behind), c.requires)),
      ),
    )

pub returns-in-Ok-clause-first : goal.returns-in-Ok-clause-first
returns-in-Ok-clause-first g c =
    let memory = c.args.ram.now.registers in
    let place = c.in-Some.place in
    let has = c.in-Some.ensures.place in
    let begins = place_begins memory c.requires c.args.at place.position place.behind has.0 has.1 in
    let answers = subst (λ (bytes : List ℕ). AnswersLine c.decode.result bytes) (c.as_slice.ensures.value ∙ c.window.ensures)
    c.decode.ensures.line in
    let same =
    same_answer _ has.0 c.in-Ok.line (place.behind - place.position) c.in-Ok._count c.decode.result begins answers c.in-Ok.is in
    subst (λ (line : Line). HasFirst memory c.args.at
    (record { listed = record { position = place.position; line = line }; behind = place.behind })) (sym same) has.1

pub returns-in-Err-clause-none : goal.returns-in-Err-clause-none
returns-in-Err-clause-none g c =
    let memory = c.args.ram.now.registers in
    let place = c.in-Some.place in
    let has = c.in-Some.ensures.place in
    let begins = place_begins memory c.requires c.args.at place.position place.behind has.0 has.1 in
    let answers = subst (λ (bytes : List ℕ). AnswersLine c.decode.result bytes) (c.as_slice.ensures.value ∙ c.window.ensures)
    c.decode.ensures.line in
    absurd (no_error (has.0, place.behind - place.position) c.in-Err.field-0
    (sym ((answers has.0 (place.behind - place.position)).1 begins) ∙ c.in-Err.is))
