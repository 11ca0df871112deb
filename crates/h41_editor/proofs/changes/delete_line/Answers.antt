use Rattle.std.proofs.Common.{refl}
use Rattle.std.proofs.lemmas.Result.{err_from_is_err_and}
use Rattle.h41_editor.proofs.Edited.{delete_refused, line_deleted}
use Rattle.h41_editor.proofs.Opened.{opened}
use Rattle.h41_editor.proofs.changes.delete_line.Goals as goal

pub returns-in_err-byte-in-Memory-clause-line : goal.returns-in_err-byte-in-Memory-clause-line
returns-in_err-byte-in-Memory-clause-line g c =
    let refused = err_from_is_err_and c.from_residual-in_err-byte-in-Memory.result c.from_residual-in_err-byte-in-Memory.ensures.1 in
    rw (refused.1, refused.2)
    (delete_refused c.args.pages.now _ _ c.delete.new.ram.registers c.in_ok-line_at.field-0 _
    c.in_err-byte-in-Memory.field-0.0 (opened c.args.ram.now.registers _ _ c.focal.view_is)
    c.if-focal.false c.in_ok-line_at.ensures c.if-is_final_end.ensures c.in-Memory.is c.in_err-byte-in-Memory.ensures.lines)

pub returns-in-Line-clause-line : goal.returns-in-Line-clause-line
returns-in-Line-clause-line g c =
    line_deleted c.args.pages.now _ _ _ c.delete.new.ram.registers c.in_ok-line_at.field-0 _
    c.in_ok-byte-in-Memory.field-0 (opened c.args.ram.now.registers _ _ c.focal.view_is)
    c.if-focal.false c.in_ok-line_at.ensures c.if-is_final_end.ensures c.in-Memory.is c.in_ok-byte-in-Memory.ensures.lines
    c.in_ok-byte-in-Memory.ensures.answer
    (rw (c.show_line.ensures.state, c.in-Line.is) refl)

pub returns-in-Start-clause-line : goal.returns-in-Start-clause-line
returns-in-Start-clause-line g c =
    line_deleted c.args.pages.now _ _ _ c.delete.new.ram.registers c.in_ok-line_at.field-0 _
    c.in_ok-byte-in-Memory.field-0 (opened c.args.ram.now.registers _ _ c.focal.view_is)
    c.if-focal.false c.in_ok-line_at.ensures c.if-is_final_end.ensures c.in-Memory.is c.in_ok-byte-in-Memory.ensures.lines
    c.in_ok-byte-in-Memory.ensures.answer
    (rw (c.halt_at.ensures.state, c.in-Start.is) refl)
