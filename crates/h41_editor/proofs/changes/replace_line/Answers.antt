use Rattle.std.proofs.lemmas.Result.{err_from_is_err_and}
use Rattle.h41_editor.proofs.Edited.{line_replaced, replace_refused}
use Rattle.h41_editor.proofs.Opened.{opened}
use Rattle.h41_editor.proofs.changes.replace_line.Goals as goal

pub returns-in_err-byte-in-Memory-clause-line : goal.returns-in_err-byte-in-Memory-clause-line
returns-in_err-byte-in-Memory-clause-line g c =
    let refused = err_from_is_err_and c.from_residual.result c.from_residual.ensures.1 in
    rw (refused.1, refused.2)
    (replace_refused c.args.line _ _ c.replace.new.ram.registers _ c.in_err-byte-in-Memory.field-0.0
    (opened c.args.ram.now.registers _ _ c.focal.view_is) c.in-Memory.is c.in_err-byte-in-Memory.ensures.lines)

pub returns-in_ok-byte-in-Memory-clause-line : goal.returns-in_ok-byte-in-Memory-clause-line
returns-in_ok-byte-in-Memory-clause-line g c =
    line_replaced c.args.line _ _ c.replace.new.ram.registers c.show_line.new.focal.state _
    c.in_ok-byte-in-Memory.byte (opened c.args.ram.now.registers _ _ c.focal.view_is)
    c.in-Memory.is c.in_ok-byte-in-Memory.ensures.lines c.in_ok-byte-in-Memory.ensures.answer c.show_line.ensures.state
