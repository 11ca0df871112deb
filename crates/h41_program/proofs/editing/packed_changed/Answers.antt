use Rattle.std.proofs.Common.{Err, Ok, [], ◌∷◌, ◌++◌, refl, sym, ◌∙◌, ap}
use Rattle.std.specs.Prelude.{◌||◌, ◌==◌}
use Rattle.std.specs.List.{flat_map}
use Rattle.h41_program.specs.private.EditSteps.{lines_of_change}
use Rattle.h41_program.specs.declared.refusal.ProgramRefusal.TheVariants.{BrokenProgram}
use Rattle.h41_program.specs.ProgramBytes.{program_bytes, final_position}
use Rattle.h41_program.proofs.EditSteps.{changed_final, changed_none, has_line_at-more, last_packs, one_packs}
use Rattle.h41_program.proofs.Walks.{up_to_none, up_to_more, all_none, all_final, from_reads}
use Rattle.h41_program.proofs.editing.packed_changed.Goals as goal

pub loop-found-init : goal.loop-found-init
loop-found-init g c = (
  [],
  record {
    read = up_to_none (program_bytes c.args.ram.now.registers) (final_position c.args.ram.now.registers) 0;
    packs = c.new-packer.ensures;
    found = refl;
  },
)

pub loop-found-preserved : goal.loop-found-preserved
loop-found-preserved g c =
    let memory = c.args.ram.now.registers in
    let found = c.in-Some.found in
    let before = c.loop-found.invariant in
    let running = sym c.is_final_end.ensures ∙ c.if-is_final_end.false in
    let here = found.listed.position == c.args.place in
    let met = ap (λ b. b || here) before.1.found in (
      before.0 ++ found.listed ∷ [],
      record {
        read =
            up_to_more (program_bytes memory) (final_position memory) 0 c.loop-found.at
            found.behind before.0 found.listed before.1.read c.in-Some.ensures.first running;
        packs =
            one_packs c.put_if.new.packer c.args.change.now c.args.place before.0
            found.listed here c.is_kept.result refl c.is_kept.ensures running
            (c.put_if.ensures _ (c.put_new.ensures (flat_map (lines_of_change c.args.change.now c.args.place) before.0) before.1.packs));
        found = met ∙ sym (has_line_at-more c.args.place before.0 found.listed);
      },
    )

pub returns-then-met : goal.returns-then-met
returns-then-met g c =
    let memory = c.args.ram.now.registers in
    let found = c.in-Some.found in
    let before = c.loop-found.invariant in
    let lines = before.0 ++ found.listed ∷ [] in
    let final = sym c.is_final_end.ensures ∙ c.if-is_final_end.true in
    let here = found.listed.position == c.args.place in
    let met = ap (λ b. b || here) before.1.found in
    let reads =
    all_final (program_bytes memory) (final_position memory) 0 c.loop-found.at
    found.behind before.0 found.listed before.1.read c.in-Some.ensures.first final in (
      lines,
      from_reads memory 0 lines c.requires.sound reads,
      changed_final (program_bytes memory) (final_position memory) c.loop-found.at found.behind c.put_new.new.packer
          _ (lines_of_change c.args.change.now c.args.place) c.args.place before.0 lines found.listed
          before.1.read c.in-Some.ensures.first final
          (last_packs c.put_new.new.packer c.args.change.now c.args.place before.0 found.listed here refl final
          (c.put_new.ensures (flat_map (lines_of_change c.args.change.now c.args.place) before.0) before.1.packs))
          (met ∙ sym (has_line_at-more c.args.place before.0 found.listed)) reads (Ok c.put_new.new.packer) (rw c.if-met.true refl),
    )

pub returns-else-met : goal.returns-else-met
returns-else-met g c =
    let memory = c.args.ram.now.registers in
    let found = c.in-Some.found in
    let before = c.loop-found.invariant in
    let lines = before.0 ++ found.listed ∷ [] in
    let final = sym c.is_final_end.ensures ∙ c.if-is_final_end.true in
    let here = found.listed.position == c.args.place in
    let met = ap (λ b. b || here) before.1.found in
    let reads =
    all_final (program_bytes memory) (final_position memory) 0 c.loop-found.at
    found.behind before.0 found.listed before.1.read c.in-Some.ensures.first final in (
      lines,
      from_reads memory 0 lines c.requires.sound reads,
      changed_final (program_bytes memory) (final_position memory) c.loop-found.at found.behind c.put_new.new.packer
          _ (lines_of_change c.args.change.now c.args.place) c.args.place before.0 lines found.listed
          before.1.read c.in-Some.ensures.first final
          (last_packs c.put_new.new.packer c.args.change.now c.args.place before.0 found.listed here refl final
          (c.put_new.ensures (flat_map (lines_of_change c.args.change.now c.args.place) before.0) before.1.packs))
          (met ∙ sym (has_line_at-more c.args.place before.0 found.listed)) reads (Err BrokenProgram) (rw c.if-met.false refl),
    )

pub returns : goal.returns
returns g c =
    let memory = c.args.ram.now.registers in
    let before = c.loop-found.invariant in
    let reads =
    all_none (program_bytes memory) (final_position memory) 0 c.loop-found.at before.0 before.1.read c.in_default.ensures.none in (
      before.0,
      from_reads memory 0 before.0 c.requires.sound reads,
      changed_none (program_bytes memory) (final_position memory) c.loop-found.at (lines_of_change c.args.change.now c.args.place)
          c.args.place before.0 before.0 before.1.read c.in_default.ensures.none reads,
    )
