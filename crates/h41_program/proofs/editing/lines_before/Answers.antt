use Rattle.std.proofs.Common.{[], ◌∷◌, ◌++◌, ◌+◌, ℕ, sym, ◌∙◌, ap, arith}
use Rattle.h41_program.specs.Edits.{count_before}
use Rattle.h41_program.specs.ProgramBytes.{program_bytes, final_position}
use Rattle.h41_program.proofs.EditPlaces.{count_more, count_stops}
use Rattle.h41_program.proofs.Walks.{up_to_more, ends_none, ends_final}
use Rattle.h41_program.proofs.editing.lines_before.Goals as goal

pub returns-then-listed-place : goal.returns-then-listed-place
returns-then-listed-place g c lines from =
    let memory = c.args.ram.now.registers in
    let found = c.in-Some.found in
    let before = c.loop-found.invariant in
    let parts = before.1.split lines (from.sound c.requires) in
    before.2
    ∙ count_stops (program_bytes memory) (final_position memory) c.args.place
    c.loop-found.at found.behind before.0 parts.0 lines found.listed c.in-Some.ensures.first
    c.if-listed-place.true parts.1 parts.2

pub returns-then-is_final_end : goal.returns-then-is_final_end
returns-then-is_final_end g c lines from =
    let memory = c.args.ram.now.registers in
    let found = c.in-Some.found in
    let before = c.loop-found.invariant in
    let final = sym c.is_final_end.ensures ∙ c.if-is_final_end.true in
    let whole =
    ends_final (program_bytes memory) (final_position memory) 0 c.loop-found.at found.behind
    before.0 lines found.listed before.1 c.in-Some.ensures.first final (from.sound c.requires) in
    ap (λ (n : ℕ). n + 1) before.2
    ∙ sym (ap (count_before c.args.place) whole ∙ count_more c.args.place before.0 found.listed (omega (arith, c.if-listed-place.false)))

pub loop-found-preserved : goal.loop-found-preserved
loop-found-preserved g c =
    let memory = c.args.ram.now.registers in
    let found = c.in-Some.found in
    let before = c.loop-found.invariant in
    let running = sym c.is_final_end.ensures ∙ c.if-is_final_end.false in
    let onward = c.in-Some.ensures.first.onward in (
      before.0 ++ found.listed ∷ [],
      up_to_more (program_bytes memory) (final_position memory) 0 c.loop-found.at
          found.behind before.0 found.listed before.1 c.in-Some.ensures.first running,
      ap (λ (n : ℕ). n + 1) before.2 ∙ sym (count_more c.args.place before.0 found.listed (omega (arith, c.if-listed-place.false))),
      omega (arith, before.3, onward),
    )

pub returns : goal.returns
returns g c lines from =
    let memory = c.args.ram.now.registers in
    let before = c.loop-found.invariant in
    before.2
    ∙ sym (ap (count_before c.args.place) (ends_none (program_bytes memory) (final_position memory) 0
    c.loop-found.at before.0 lines before.1 c.in_default.ensures.none (from.sound c.requires)))
