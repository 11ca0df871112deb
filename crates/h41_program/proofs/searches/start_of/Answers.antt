use Rattle.std.proofs.Common.{◌≡◌, true, false, ◌++◌, ◌∷◌, [], refl, sym, ap, ◌∙◌}
use Rattle.std.specs.Prelude.{◌&&◌, nat_lt}
use Rattle.h41_program.specs.Lines.{is_end}
use Rattle.h41_program.specs.declared.listed_line.ListedLine.{ListedLine}
use Rattle.h41_program.specs.ProgramBytes.{program_bytes, final_position}
use Rattle.h41_program.specs.Searches.{start_in}
use Rattle.h41_program.proofs.Cases.{below_test}
use Rattle.h41_program.proofs.SearchSteps.{start_in-more, start_in-final, start_in-behind}
use Rattle.h41_program.proofs.Walks.{up_to_more, all_none, all_final, first_rest, from_reads}
use Rattle.h41_program.proofs.searches.start_of.Goals as goal

pub returns-then-place : goal.returns-then-place
returns-then-place g c =
    let memory = c.args.ram.now.registers in
    let place = c.in-Some.place in
    let before = c.loop-place.invariant in
    let has = c.in-Some.ensures.place in
    let listed : ListedLine = record { position = place.position; line = has.0 } in
    let final = sym has.3 ∙ c.if-place.true in
    let lines = before.0 ++ listed ∷ [] in (
      lines,
      from_reads memory 0 lines c.requires
          (all_final (program_bytes memory) (final_position memory) 0
          c.loop-place.position place.behind before.0 listed before.1 has.1 final),
      before.2 ∙ sym (start_in-final c.args.at before.0 listed final),
    )

-- The rest of the list has no line before the position.
pub returns-then-place-at : goal.returns-then-place-at
returns-then-place-at g c =
    let memory = c.args.ram.now.registers in
    let place = c.in-Some.place in
    let before = c.loop-place.invariant in
    let has = c.in-Some.ensures.place in
    let listed : ListedLine = record { position = place.position; line = has.0 } in
    let all = c.one_list.ensures memory 0 in
    let parts = before.1.split all.lines (all.from.sound c.requires) in
    let rest =
    first_rest (program_bytes memory) (final_position memory) c.loop-place.position place.behind listed parts.0 has.1 parts.2 in
    let behind =
    start_in-behind c.args.at (program_bytes memory) (final_position memory) place.behind before.0 listed rest.0
    c.if-place-at.true has.1.behind rest.2 in (
      all.lines,
      all.from,
      before.2 ∙ sym (ap (start_in c.args.at) (parts.1 ∙ ap (λ lines. before.0 ++ lines) rest.1) ∙ behind),
    )

pub loop-place-preserved-then-place-2 : goal.loop-place-preserved-then-place-2
loop-place-preserved-then-place-2 g c =
    let memory = c.args.ram.now.registers in
    let place = c.in-Some.place in
    let before = c.loop-place.invariant in
    let has = c.in-Some.ensures.place in
    let listed : ListedLine = record { position = place.position; line = has.0 } in
    let running = sym has.3 ∙ c.if-place.false in
    let end = sym has.2 ∙ c.if-place-2.true in
    let early = below_test place.position c.args.at c.if-place-at.false in
    let test : is_end has.0 && nat_lt place.position c.args.at ≡ true = rw (end, early) refl in (
      before.0 ++ listed ∷ [],
      up_to_more (program_bytes memory) (final_position memory) 0 c.loop-place.position place.behind before.0 listed before.1 has.1 running,
      has.1.behind ∙ sym (start_in-more c.args.at before.0 listed ∙ (rw test refl)),
    )

pub loop-place-preserved : goal.loop-place-preserved
loop-place-preserved g c =
    let memory = c.args.ram.now.registers in
    let place = c.in-Some.place in
    let before = c.loop-place.invariant in
    let has = c.in-Some.ensures.place in
    let listed : ListedLine = record { position = place.position; line = has.0 } in
    let running = sym has.3 ∙ c.if-place.false in
    let other = sym has.2 ∙ c.if-place-2.false in
    let test : is_end has.0 && nat_lt place.position c.args.at ≡ false = rw other refl in (
      before.0 ++ listed ∷ [],
      up_to_more (program_bytes memory) (final_position memory) 0 c.loop-place.position place.behind before.0 listed before.1 has.1 running,
      before.2 ∙ sym (start_in-more c.args.at before.0 listed ∙ (rw test refl)),
    )

pub returns : goal.returns
returns g c =
    let memory = c.args.ram.now.registers in
    let before = c.loop-place.invariant in (
      before.0,
      from_reads memory 0 before.0 c.requires
          (all_none (program_bytes memory) (final_position memory) 0 c.loop-place.position before.0 before.1 c.in_default.ensures.none),
      before.2,
    )
