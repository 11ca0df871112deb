use Rattle.std.proofs.Common.{◌+◌, ◌*◌, ◌++◌, refl, ap, sym, ◌∙◌}
use Rattle.h41_views.specs.PageViews.{image_line, bytes_line}
use Rattle.h41_views.proofs.ImageLines.{no_lines, one_more_line, line_of}
use Rattle.h41_views.proofs.image.image_text.Goals as goal

pub loop-line-init : goal.loop-line-init
loop-line-init c = c.new-text.ensures.items ∙ sym (no_lines c.args.bytes.now)

pub loop-line-preserved : goal.loop-line-preserved
loop-line-preserved c =
    c.in_ok-push_line.ensures
    ∙ ap (λ row. c.loop-line.text.items ++ bytes_line row)
    (line_of c.args.bytes.now c.loop-line.line (32 * c.loop-line.line) (32 * c.loop-line.line + 32) refl refl)
    ∙ ap (λ text. text ++ image_line c.args.bytes.now c.loop-line.line) c.loop-line.invariant
    ∙ sym (one_more_line c.args.bytes.now c.loop-line.line)
