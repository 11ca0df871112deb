use Rattle.std.proofs.Common.{[], ◌∷◌, ◌++◌, ◌≡◌, ◌≤◌, List, length, sym, ◌∙◌, ap, arith, length-append}
use Rattle.std.specs.Prelude.{slice_get}
use Rattle.std.proofs.lemmas.Option.{slice_get_past}
use Rattle.h41_program.specs.declared.listed_line.ListedLine.{ListedLine}
use Rattle.h41_program.specs.ProgramBytes.{program_bytes, final_position}
use Rattle.h41_program.proofs.EditPlaces.{get_behind}
use Rattle.h41_program.proofs.Walks.{up_to_more, ends_none, goes_on, ends_final}
use Rattle.h41_program.proofs.editing.line_behind.Goals as goal

pub returns-then-left-eq0-clause-line : goal.returns-then-left-eq0-clause-line
returns-then-left-eq0-clause-line g c lines from =
    let memory = c.args.ram.now.registers in
    let found = c.in-Some.found in
    let before = c.loop-found.invariant in
    let on =
    goes_on (program_bytes memory) (final_position memory) 0 c.loop-found.at found.behind
    before.0 lines found.listed before.1 c.in-Some.ensures.first (from.sound c.requires) in
    let number : length before.0 ≡ c.args.count = omega (arith, before.2, c.if-left-eq0.true) in
    sym (ap (λ (l : List ListedLine). slice_get l c.args.count) on.1 ∙ ap (slice_get (before.0 ++ found.listed ∷ on.0)) (sym number)
    ∙ get_behind before.0 found.listed on.0)

pub returns-then-is_final_end-clause-line : goal.returns-then-is_final_end-clause-line
returns-then-is_final_end-clause-line g c lines from =
    let memory = c.args.ram.now.registers in
    let found = c.in-Some.found in
    let before = c.loop-found.invariant in
    let final = sym c.is_final_end.ensures ∙ c.if-is_final_end.true in
    let whole =
    ends_final (program_bytes memory) (final_position memory) 0 c.loop-found.at found.behind
    before.0 lines found.listed before.1 c.in-Some.ensures.first final (from.sound c.requires) in
    let size = length-append before.0 (found.listed ∷ []) in
    let past : length (before.0 ++ found.listed ∷ []) ≤ c.args.count = omega (arith, size, before.2, c.if-left-eq0.false) in
    sym (ap (λ (l : List ListedLine). slice_get l c.args.count) whole ∙ slice_get_past (before.0 ++ found.listed ∷ []) c.args.count past)

pub loop-found-preserved : goal.loop-found-preserved
loop-found-preserved g c =
    let memory = c.args.ram.now.registers in
    let found = c.in-Some.found in
    let before = c.loop-found.invariant in
    let running = sym c.is_final_end.ensures ∙ c.if-is_final_end.false in
    let size = length-append before.0 (found.listed ∷ []) in (
      before.0 ++ found.listed ∷ [],
      up_to_more (program_bytes memory) (final_position memory) 0 c.loop-found.at
          found.behind before.0 found.listed before.1 c.in-Some.ensures.first running,
      omega (arith, size, before.2, c.if-left-eq0.false),
    )

pub returns-clause-line : goal.returns-clause-line
returns-clause-line g c lines from =
    let memory = c.args.ram.now.registers in
    let before = c.loop-found.invariant in
    let whole =
    ends_none (program_bytes memory) (final_position memory) 0 c.loop-found.at
    before.0 lines before.1 c.in_default.ensures.none (from.sound c.requires) in
    let past : length before.0 ≤ c.args.count = omega (arith, before.2) in
    sym (ap (λ (l : List ListedLine). slice_get l c.args.count) whole ∙ slice_get_past before.0 c.args.count past)
