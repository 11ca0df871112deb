use Rattle.std.proofs.Common.{sym, ◌∙◌, subst, refl, ◌++◌, ◌∷◌, []}
use Rattle.h41_program.specs.Edits.{lines_of}
use Rattle.h41_program.specs.private.Packers.{Packs}
use Rattle.h41_program.specs.ProgramBytes.{program_bytes, final_position}
use Rattle.h41_program.proofs.Loads.{packed_lines, lines_of-more}
use Rattle.h41_program.proofs.Walks.{up_to_none, up_to_more, all_none, all_final, from_reads, before_end-none}
use Rattle.h41_program.proofs.loading.packed_program.Goals as goal

pub loop-found-init : goal.loop-found-init
loop-found-init g c = (
  [],
  up_to_none (program_bytes c.args.ram.now.registers) (final_position c.args.ram.now.registers) 0,
  c.new-packer.ensures,
)

pub returns-then-is_final_end : goal.returns-then-is_final_end
returns-then-is_final_end g c =
    let memory = c.args.ram.now.registers in
    let found = c.in-Some.found in
    let before = c.loop-found.invariant in
    let last = sym c.is_final_end.ensures ∙ c.if-is_final_end.true in
    let lines = before.0 ++ found.listed ∷ [] in (
      lines,
      from_reads memory 0 lines c.requires
          (all_final (program_bytes memory) (final_position memory) 0 c.loop-found.at
          found.behind before.0 found.listed before.1 c.in-Some.ensures.first last),
      packed_lines (program_bytes memory) (final_position memory) c.loop-found.at
          before.0 found.listed c.loop-found.packer before.1 last before.2,
    )

pub loop-found-preserved : goal.loop-found-preserved
loop-found-preserved g c =
    let memory = c.args.ram.now.registers in
    let found = c.in-Some.found in
    let before = c.loop-found.invariant in (
      before.0 ++ found.listed ∷ [],
      up_to_more (program_bytes memory) (final_position memory) 0 c.loop-found.at
          found.behind before.0 found.listed before.1 c.in-Some.ensures.first
          (sym c.is_final_end.ensures ∙ c.if-is_final_end.false),
      subst (λ lines. Packs c.put.new.self lines) (sym (lines_of-more before.0 found.listed)) (c.put.ensures (lines_of before.0) before.2),
    )

pub returns : goal.returns
returns g c =
    let memory = c.args.ram.now.registers in
    let before = c.loop-found.invariant in
    let none = before_end-none (program_bytes memory) (final_position memory) 0 c.loop-found.at before.0 before.1 in (
      before.0,
      from_reads memory 0 before.0 c.requires
          (all_none (program_bytes memory) (final_position memory) 0 c.loop-found.at before.0 before.1 c.in_default.ensures.none),
      rw none refl,
    )
