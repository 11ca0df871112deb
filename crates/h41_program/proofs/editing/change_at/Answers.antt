use Rattle.std.proofs.Common.{◌≡◌, refl, sym, ◌∙◌, ap, Ok, Err}
use Rattle.std.proofs.lemmas.Result.{err_from_is_err_and}
use Rattle.h41_program.specs.Edits.{without_answer}
use Rattle.h41_program.specs.private.EditSteps.{lines_of_change}
use Rattle.h41_program.proofs.EditSteps.{edit_none, edit_refused, edit_written}
use Rattle.h41_program.proofs.Outcomes.{edit_sound}
use Rattle.h41_program.proofs.editing.change_at.Goals as goal

pub returns-in_default-clause-lines : goal.returns-in_default-clause-lines
returns-in_default-clause-lines g c =
    edit_none c.args.ram.now.registers (lines_of_change c.args.change) c.args.at c.in_default.ensures.none

pub returns-in_err-packed_changed-clause-lines : goal.returns-in_err-packed_changed-clause-lines
returns-in_err-packed_changed-clause-lines g c =
    let first = c.in-Some.found.listed in
    let stands = c.in-Some.ensures.first.first in
    edit_refused c.args.ram.now.registers (lines_of_change c.args.change) c.args.at first stands c.packed_changed.result
    c.packed_changed.ensures
    c.from_residual.result c.in_err-packed_changed.field-0.0 c.in_err-packed_changed.was
    (let p =
    err_from_is_err_and c.from_residual.result c.from_residual.ensures.1 in
    rw (p.1, p.2) refl)

pub returns-in_err-write-clause-lines : goal.returns-in_err-write-clause-lines
returns-in_err-write-clause-lines g c =
    let first = c.in-Some.found.listed in
    let stands = c.in-Some.ensures.first.first in
    let err : c.from_residual-in_err-write.result ≡ Err c.in_err-write.field-0.0 =
    (let p = err_from_is_err_and c.from_residual-in_err-write.result c.from_residual-in_err-write.ensures.1 in rw (p.1, p.2) refl) in
    edit_written c.args.ram.now.registers (lines_of_change c.args.change) c.args.at first stands c.packed_changed.result
    c.packed_changed.ensures
    c.write.new.ram.registers c.in_ok-packed_changed.field-0 c.write.result
    (without_answer c.from_residual-in_err-write.result) c.in_ok-packed_changed.was c.write.ensures.lines
    (c.in_err-write.was ∙ sym (ap without_answer err))

pub returns-clause-lines : goal.returns-clause-lines
returns-clause-lines g c =
    let first = c.in-Some.found.listed in
    let stands = c.in-Some.ensures.first.first in
    edit_written c.args.ram.now.registers (lines_of_change c.args.change) c.args.at first stands c.packed_changed.result
    c.packed_changed.ensures
    c.write.new.ram.registers c.in_ok-packed_changed.field-0 c.write.result (Ok tt) c.in_ok-packed_changed.was c.write.ensures.lines
    c.in_ok-write.was

pub returns-clause-sound : goal.returns-clause-sound
returns-clause-sound g c =
    edit_sound c.args.ram.now.registers c.write.new.ram.registers (lines_of_change c.args.change) c.args.at (Ok tt) c.requires.sound
    (returns-clause-lines g c)
