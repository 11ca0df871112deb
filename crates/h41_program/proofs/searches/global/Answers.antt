use Rattle.std.proofs.Common.{◌++◌, ◌∷◌, [], refl, sym, ◌∙◌}
use Rattle.h41_program.specs.declared.listed_line.ListedLine.{ListedLine}
use Rattle.h41_program.specs.ProgramBytes.{program_bytes, final_position}
use Rattle.h41_program.proofs.SearchSteps.{named_in-more, named_in-final}
use Rattle.h41_program.proofs.Walks.{up_to_more, all_none, all_final, from_reads}
use Rattle.h41_program.proofs.searches.global.Goals as goal

pub returns-then-place : goal.returns-then-place
returns-then-place g c =
    let memory = c.args.ram.now.registers in
    let place = c.in-Some.place in
    let has = c.in-Some.ensures.place in
    let listed : ListedLine = record { position = place.position; line = has.0 } in
    let before = c.loop-place.invariant in
    let final = sym has.3 ∙ c.if-place.true in
    let lines = before.0 ++ listed ∷ [] in (
      lines,
      from_reads memory 0 lines c.requires
          (all_final (program_bytes memory) (final_position memory) 0 c.loop-place.position
          place.behind before.0 listed before.1 has.1 final),
      before.2 ∙ sym (named_in-final c.args.name.now before.0 listed final),
    )

pub loop-place-preserved-then-is_named_at : goal.loop-place-preserved-then-is_named_at
loop-place-preserved-then-is_named_at g c =
    let memory = c.args.ram.now.registers in
    let place = c.in-Some.place in
    let has = c.in-Some.ensures.place in
    let listed : ListedLine = record { position = place.position; line = has.0 } in
    let before = c.loop-place.invariant in
    let running = sym has.3 ∙ c.if-place.false in
    let test = sym (c.is_named_at.ensures has.0 has.1) ∙ c.if-is_named_at.true in (
      before.0 ++ listed ∷ [],
      up_to_more (program_bytes memory) (final_position memory) 0 c.loop-place.position
          place.behind before.0 listed before.1 has.1 running,
      sym (named_in-more c.args.name.now before.0 listed ∙ (rw test refl)),
    )

pub loop-place-preserved : goal.loop-place-preserved
loop-place-preserved g c =
    let memory = c.args.ram.now.registers in
    let place = c.in-Some.place in
    let has = c.in-Some.ensures.place in
    let listed : ListedLine = record { position = place.position; line = has.0 } in
    let before = c.loop-place.invariant in
    let running = sym has.3 ∙ c.if-place.false in
    let test = sym (c.is_named_at.ensures has.0 has.1) ∙ c.if-is_named_at.false in (
      before.0 ++ listed ∷ [],
      up_to_more (program_bytes memory) (final_position memory) 0 c.loop-place.position
          place.behind before.0 listed before.1 has.1 running,
      before.2 ∙ sym (named_in-more c.args.name.now before.0 listed ∙ (rw test refl)),
    )

pub returns : goal.returns
returns g c =
    let memory = c.args.ram.now.registers in
    let before = c.loop-place.invariant in (
      before.0,
      from_reads memory 0 before.0 c.requires
          (all_none (program_bytes memory) (final_position memory) 0 c.loop-place.position before.0 before.1 c.in_default.ensures.none),
      before.2,
    )
