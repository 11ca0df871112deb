use Rattle.std.proofs.Common.{refl}
use Rattle.std.proofs.lemmas.Result.{err_from_is_err_and}
use Rattle.h41_editor.proofs.Edited.{insert_refused, line_inserted}
use Rattle.h41_editor.proofs.changes.insert_line.Goals as goal
use Rattle.h41_positions.specs.FocalState.{machine_with}

pub returns-in_err-byte-in-Memory-clause-line : goal.returns-in_err-byte-in-Memory-clause-line
returns-in_err-byte-in-Memory-clause-line g c =
    let refused = err_from_is_err_and c.from_residual-in_err-byte-in-Memory.result c.from_residual-in_err-byte-in-Memory.ensures.1 in
    let machine = machine_with c.args.ram.now.registers c.args.focal.now.state in
    rw (refused.1, refused.2)
    (insert_refused c.args.pages.now c.args.line machine machine c.insert.new.ram.registers c.in-Some.shown
    c.in_ok-before-in-Some.before c.in-Memory.before c.in_err-byte-in-Memory.field-0.0
    refl c.in-Some.ensures c.in_ok-before-in-Some.ensures.place c.in-Memory.is c.in_err-byte-in-Memory.ensures.lines)

pub returns-in_ok-byte-in-Memory-clause-line : goal.returns-in_ok-byte-in-Memory-clause-line
returns-in_ok-byte-in-Memory-clause-line g c =
    let machine = machine_with c.args.ram.now.registers c.args.focal.now.state in
    line_inserted c.args.pages.now c.args.line machine machine c.insert.new.ram.registers c.show_line.new.focal.state
    c.in-Some.shown c.in_ok-before-in-Some.before c.in-Memory.before c.in_ok-byte-in-Memory.byte
    refl c.in-Some.ensures c.in_ok-before-in-Some.ensures.place c.in-Memory.is
    c.in_ok-byte-in-Memory.ensures.lines c.in_ok-byte-in-Memory.ensures.answer c.show_line.ensures.state
