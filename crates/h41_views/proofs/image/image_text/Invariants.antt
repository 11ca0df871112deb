use Rattle.std.proofs.Common.{◌≡◌}
use Rattle.h41_views.specs.PageViews.{image_lines}
use Rattle.h41_views.proofs.image.image_text.Given as goal

-- The lines so far.
abbrev pub invariant-loop-line : goal.invariant-loop-line
invariant-loop-line l = l.text.items ≡ image_lines l.bytes l.line
